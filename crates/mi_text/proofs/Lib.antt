pub mod ByteLemmas
pub mod FoldedLemmas
pub mod GuidLemmas
pub mod MapLemmas
pub mod NextLemmas
pub mod PathLemmas
pub mod PieceLemmas
pub mod TreeLemmas
