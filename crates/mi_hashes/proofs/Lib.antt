pub mod PieceLemmas
pub mod RecordLemmas
pub mod FileLemmas
