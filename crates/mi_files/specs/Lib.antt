pub mod Copies
pub mod Folders
pub mod Guarding
pub mod Paths
pub mod Taking
