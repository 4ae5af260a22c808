pub mod CodeLemmas
pub mod LawLemmas
pub mod LineLemmas
pub mod RegistryLemmas
mod TreeCodeLemmas
pub mod TreeLemmas
