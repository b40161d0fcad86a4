pub mod DatedLegs
pub mod OwnDates
pub mod PlainText
pub mod RoundLines
pub mod RowWriting
pub mod TourLegs
