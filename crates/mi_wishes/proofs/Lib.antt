pub mod MarkLemmas
pub mod ChainLemmas
pub mod RowLemmas
pub mod LevelLemmas
pub mod LineLemmas
