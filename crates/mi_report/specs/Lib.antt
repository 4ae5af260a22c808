pub mod Fields
pub mod WalkLogs
