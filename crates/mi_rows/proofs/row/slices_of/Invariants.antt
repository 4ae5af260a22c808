use Rattle.std.proofs.Common.{◌≡◌, ◌++◌, drop, map, string_bytes}
use Rattle.mi_rows.proofs.row.slices_of.Given as goal

abbrev pub invariant-loop-text : goal.invariant-loop-text
invariant-loop-text l = map (λ b. b.now) l.slices.items ++ map string_bytes (drop l.text-index l.texts) ≡ map string_bytes l.texts
