pub mod Scripts
pub mod Spelled
pub mod Written
pub mod Reading
pub mod Kept
