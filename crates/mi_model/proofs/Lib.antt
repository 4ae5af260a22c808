pub mod EnvironmentExamples
pub mod FeatureExamples
pub mod FileExamples
pub mod RegistryExamples
pub mod StepExamples
pub mod WordExamples
