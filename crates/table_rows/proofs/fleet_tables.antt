pub mod CostsFit
pub mod FleetsFit
