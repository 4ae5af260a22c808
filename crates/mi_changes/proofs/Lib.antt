pub mod TouchLemmas
pub mod ChangeLemmas
