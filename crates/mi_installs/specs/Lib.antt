pub mod Copying
pub mod Deciding
pub mod Installs
pub mod Leads
pub mod Placings
pub mod Reading
pub mod Targets
