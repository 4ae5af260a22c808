pub mod MarkLemmas
mod ListLemmas
mod ChangeLemmas
