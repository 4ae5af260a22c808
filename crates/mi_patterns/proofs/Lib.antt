pub mod PatternLemmas
pub mod WalkLemmas
