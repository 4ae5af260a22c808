mod NextLemmas
mod StepLemmas
mod StageLemmas
mod ArmLemmas
mod TurnLemmas
mod StartLemmas
mod DeviceLemmas
mod RefusalLemmas
mod LengthLemmas
mod InstallLemmas
pub mod CarriedLemmas
