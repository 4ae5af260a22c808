use Rattle.std.proofs.Common.{◌≡◌, drop, map}
use Rattle.std.specs.List.{list_all}
use Rattle.mi_text.specs.Path.{good_part}
use Rattle.mi_text.proofs.path.all_good.Given as goal

abbrev pub invariant-loop-part : goal.invariant-loop-part
invariant-loop-part l = list_all good_part (map (λ b. b.now) (drop l.part-index l.parts)) ≡ list_all good_part (map (λ b. b.now) l.parts)
