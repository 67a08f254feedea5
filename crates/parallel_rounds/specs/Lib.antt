pub mod StoreUpdate
pub mod Propagated
pub mod Rows
pub mod Targets
pub mod LastRounds
pub mod Placement
pub mod WorkerRows
pub mod WorkerParts
