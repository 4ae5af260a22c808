pub mod ClientLemmas
