pub mod Chosen
pub mod KeyPaths
pub mod Selections
