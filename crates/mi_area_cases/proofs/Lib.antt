mod AreaSteps
mod NotedLemmas
mod SegmentLemmas
