mod FirstLemmas
mod WordLemmas
mod LookLemmas
mod MachineLemmas
mod EndLemmas
mod OneLemmas
pub mod BeforeLemmas
mod QuietLemmas
mod ReplyLemmas
mod PackageLemmas
mod ReachLemmas
mod SegmentLemmas
mod RoomLemmas
mod WalkLemmas
mod ServeLemmas
mod RunLemmas
