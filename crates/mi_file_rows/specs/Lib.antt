pub mod Languages
pub mod Modes
