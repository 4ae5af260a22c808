pub mod Faults
pub mod Records
pub mod Sizes
pub mod Steps
pub mod Answers
