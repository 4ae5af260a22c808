use Rattle.std.proofs.Common.{sym}
use Rattle.std.specs.Prelude.{nat_eq}
use Rattle.std.specs.List.{starts_with}
use Rattle.std.proofs.lemmas.List.Sorted.{list_any-IsPermutation}
use Rattle.mi_steps.proofs.places.Places.of.Goals as goal

pub returns : goal.returns
returns c = λ holder. sym (list_any-IsPermutation (λ place. starts_with nat_eq place holder) c.args.places.items c.sort_unstable.new.self.items c.sort_unstable.ensures.permutation)
