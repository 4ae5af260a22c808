pub mod TouchedLemmas
pub mod AgainLemmas
pub mod SpellLemmas
