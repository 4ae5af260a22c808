mod LookLemmas
pub mod SetLemmas
