pub mod Prints
pub mod Machines
pub mod Differences
pub mod Laws
pub mod Faults
