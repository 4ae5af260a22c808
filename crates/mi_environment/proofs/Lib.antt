pub mod TakeLemmas
pub mod ValueLemmas
pub mod VariableLemmas
pub mod WriteLemmas
