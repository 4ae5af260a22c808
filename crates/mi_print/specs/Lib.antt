pub mod Texts
pub mod Lines
pub mod Registry
pub mod Trees
pub mod Entries
pub mod Laws
