pub mod Forms
pub mod Lefts
pub mod Written
