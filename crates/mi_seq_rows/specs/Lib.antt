pub mod Conditions
pub mod Customs
pub mod Stages
