pub mod Sessions
pub mod SessionNetworks
pub mod OpenSessions
pub mod Codes
pub mod Kept
pub mod Laws
