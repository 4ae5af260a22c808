pub mod Carried
pub mod Follows
pub mod Makes
pub mod Rows
pub mod Trees
