pub mod SolvedBy
