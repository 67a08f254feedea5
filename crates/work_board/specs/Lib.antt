pub mod Limits
pub mod Views
pub mod BoardHistory
pub mod BoardRule
pub mod Steps
pub mod Boards
pub mod Seats
