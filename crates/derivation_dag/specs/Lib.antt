pub mod Marks
pub mod Numbers
pub mod Places
pub mod SupportedTables
pub mod SupportCode
pub mod Rows
pub mod NodeCode
pub mod Pruned
