pub mod WalkLogLemmas
