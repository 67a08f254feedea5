pub mod Entries
pub mod Rows
pub mod StoredRows
pub mod Changes
pub mod Words
pub mod MergedRows
