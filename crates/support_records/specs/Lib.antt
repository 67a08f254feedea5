pub mod NewNodes
pub mod Moves
pub mod FollowedStores
