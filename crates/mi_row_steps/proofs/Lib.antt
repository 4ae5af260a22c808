pub mod GuardLemmas
pub mod RowLemmas
pub mod SizeLemmas
