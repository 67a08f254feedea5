pub mod Dispatchable
pub mod Outgoing
pub mod OfClosure
pub mod Execution
pub mod Slim
pub mod Held
pub mod Ranked
pub mod Laws
