pub mod AllRecords
pub mod Digits
pub mod FieldAt
pub mod NoBytes
pub mod ReadErrors
pub mod WholeForm
