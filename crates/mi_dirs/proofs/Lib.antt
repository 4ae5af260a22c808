pub mod ChainLemmas
mod PathLemmas
pub mod RowLemmas
pub mod FilledLemmas
mod TargetLemmas
mod SourceLemmas
mod AboveLemmas
mod OwnLemmas
mod DirLemmas
pub mod FaultLemmas
mod KeptLemmas
mod ResolveLemmas
