pub mod Decision
pub mod Rows
pub mod Searching
pub mod ForwardTest
pub mod Sources
pub mod SparseRows
