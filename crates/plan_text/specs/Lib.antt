pub mod CsvText
pub mod Reading
pub mod Text
