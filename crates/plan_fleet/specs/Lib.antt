pub mod Limits
pub mod PlanExecutions
pub mod FleetPlans
pub mod Fleets
pub mod FleetStart
