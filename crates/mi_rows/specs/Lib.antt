pub mod Cells
pub mod Columns
pub mod Fields
pub mod Reads
pub mod Rows
pub mod Texts
pub mod Typed
pub mod Values
