pub mod ColumnLemmas
pub mod ItemLemmas
