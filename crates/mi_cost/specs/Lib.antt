pub mod CostLaw
pub mod FormerMap
pub mod Tallies
