pub mod OrderOrCycle
pub mod NegativeSuccessors
pub mod Marks
pub mod OpenEdges
pub mod KeptOrders
