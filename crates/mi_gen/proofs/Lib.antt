pub mod ContentLemmas
pub mod RowLemmas
pub mod PackageLemmas
