pub mod Saturation
pub mod RowTest
pub mod Dense
pub mod Laws
pub mod Progress
