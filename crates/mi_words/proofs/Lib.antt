mod FoldLemmas
mod PlaceLemmas
mod PairLemmas
