pub mod Props
pub mod Starts
