pub mod OrderLemmas
mod StandardLemmas
mod CustomLemmas
mod RowLemmas
mod WalkLemmas
pub mod LoopLemmas
pub mod LaunchLemmas
