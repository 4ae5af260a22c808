mod NameLemmas
pub mod NotesOf
pub mod StandsLemmas
pub mod OpenLemmas
pub mod NoteLemmas
pub mod OutsideLemmas
pub mod StepLemmas
mod SpanLemmas
mod FaultLemmas
mod OnlyLemmas
mod NoteSteps
mod EncodeLemmas
mod AddLemmas
mod GatherLemmas
mod EntryLemmas
mod EntrySteps
mod FreshLemmas
mod EnterLemmas
mod EntryNumbers
pub mod AreaLemmas
pub mod ClearLemmas
pub mod CloseLemmas
mod CloseSteps
pub mod BackSteps
pub mod CommitLemmas
mod SettleBits
pub mod ChangeLemmas
pub mod BackLemmas
mod ReturnLemmas
mod OverLemmas
pub mod PutLemmas
pub mod BeginLemmas
mod DecodeLemmas
mod HalfLemmas
pub mod ReadLemmas
pub mod SettleLemmas
pub mod SpareLemmas
mod InsideLemmas
mod SweepLemmas
pub mod SettleSteps
mod SumLemmas
mod ShortLemmas
mod SettlingLemmas
mod RoomLemmas
mod TouchLemmas
mod RecoverLemmas
mod AreaRoom
mod LawLemmas
mod SpelledLemmas
