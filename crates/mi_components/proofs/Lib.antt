mod HolderLemmas
mod ActionLemmas
pub mod NumberedLemmas
