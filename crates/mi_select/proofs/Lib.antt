mod KeyPathLemmas
mod LookLemmas
mod OrderLemmas
mod NameLemmas
mod SelectLemmas
