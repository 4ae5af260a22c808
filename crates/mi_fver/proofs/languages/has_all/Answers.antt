-- What is sorted doesn't fall.
use Rattle.std.proofs.lemmas.List.Sorted.{non_decreasing_from_is_sorted}
use Rattle.std.proofs.Common.{true}
use Rattle.mi_fver.proofs.languages.has_all.Goals as goal

pub sorted_has_all-requires : goal.sorted_has_all-requires
sorted_has_all-requires c = non_decreasing_from_is_sorted c.args.all.now true c.if-is_sorted.ensures.cases
