pub mod Records
pub mod Requests
