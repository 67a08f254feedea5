pub mod Ends
pub mod LinesFrom
pub mod NodeTables
pub mod RowParts
pub mod Marks
