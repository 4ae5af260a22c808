mod BoundLemmas
mod TableLemmas
mod VariableLemmas
mod RowLemmas
mod DirectoryLemmas
mod SystemLemmas
mod RecallLemmas
mod CostLemmas
pub mod AskLemmas
pub mod LookLemmas
pub mod WorldLemmas
