pub mod FleetCounts
pub mod NeedFound
pub mod Peaks
pub mod PlanCounts
