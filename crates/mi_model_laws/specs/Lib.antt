pub mod CopyLaws
pub mod FileLaws
pub mod FolderLaws
pub mod OnlyLaws
pub mod PhaseLaws
pub mod RecordLaws
pub mod RegistryLaws
pub mod WalkLaws
