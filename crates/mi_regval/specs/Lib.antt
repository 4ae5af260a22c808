pub mod Lists
pub mod ListTexts
pub mod Numbers
pub mod Values
pub mod Changes
pub mod Reads
