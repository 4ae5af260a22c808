mod TokenLemmas
mod MarkLemmas
mod KeptLemmas
mod NameLemmas
mod BoundLemmas
mod OneScan
pub mod Grammar
mod PartLemmas
mod DepthLemmas
mod StepLemmas
mod ValueLemmas
mod LawLemmas
mod OpenMarkLemmas
