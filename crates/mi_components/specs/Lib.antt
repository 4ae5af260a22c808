pub mod Actions
pub mod Counts
pub mod FileRows
pub mod Holders
