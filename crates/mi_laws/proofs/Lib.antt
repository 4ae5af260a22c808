mod StandLemmas
pub mod ValueLemmas
pub mod ClientLemmas
pub mod FileLemmas
pub mod PlainCountLemmas
pub mod PlainParentLemmas
pub mod PlainRowLemmas
pub mod PlainCodeLemmas
pub mod PlainComponentLemmas
pub mod PlainRegistryLemmas
pub mod PlainFileLemmas
pub mod PlainRecordLemmas
pub mod PlainPhaseLemmas
pub mod PlainWalkLemmas
pub mod PlainPackageLemmas
mod UnrefusedLemmas
mod StepKindLemmas
mod StepLemmas
mod SoundLemmas
mod ActionLemmas
mod SelectLemmas
pub mod RemovalLemmas
pub mod MachineLemmas
pub mod MomentLemmas
pub mod CommittedLemmas
mod ClientRowLemmas
mod ClientPhaseLemmas
mod SeenLemmas
mod ClientWalkLemmas
pub mod ClientHistoryLemmas
pub mod LastClientLemmas
mod ClientNameLemmas
mod KeyOrderLemmas
mod TableLemmas
mod SequenceLemmas
mod TidyLemmas
mod IdLemmas
mod ShortLemmas
pub mod OneOutcomeLemmas
