pub mod Counts
pub mod MemSink
pub mod MemSource
pub mod Memory
pub mod Paths
