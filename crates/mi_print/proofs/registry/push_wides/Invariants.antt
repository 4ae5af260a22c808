use Rattle.std.proofs.Common.{◌≡◌, ◌++◌, drop}
use Rattle.std.specs.List.{flat_map}
use Rattle.mi_print.specs.Texts.{wide}
use Rattle.mi_print.proofs.registry.push_wides.Given as goal

abbrev pub invariant-loop-text : goal.invariant-loop-text
invariant-loop-text l = l.out.items ++ flat_map wide (drop l.text-index l.texts) ≡ l.fn.out.items ++ flat_map wide l.texts
