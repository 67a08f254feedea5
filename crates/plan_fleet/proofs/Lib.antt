pub mod PlanLemmas
pub mod FleetStartLemmas
