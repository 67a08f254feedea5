pub mod PlanParts
pub mod PlanForms
pub mod PlanLines
pub mod PlanGrammar
pub mod PlanFaults
pub mod PlanReading
pub mod PlanNetwork
pub mod PlanPrinting
