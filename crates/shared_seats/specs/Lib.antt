pub mod Standings
pub mod NotedViews
pub mod Seats
pub mod Steps
