pub mod Fields
pub mod Generated
pub mod Tables
