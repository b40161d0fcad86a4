pub mod RotationRecords
pub mod RotationWords
pub mod RoundRows
pub mod TailLaws
pub mod Tails
pub mod TextLines
