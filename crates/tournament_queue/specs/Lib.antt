pub mod First
pub mod Tournament
