pub mod FileLemmas
pub mod FollowLemmas
pub mod OutsideLemmas
pub mod PlaceLemmas
pub mod PruneLemmas
pub mod RowLemmas
pub mod StepLemmas
