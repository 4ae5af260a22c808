mod DiffLawLemmas
mod DiffLemmas
mod ImageLemmas
mod KeyLemmas
mod MachineLemmas
mod PrintLemmas
mod WholeLemmas
