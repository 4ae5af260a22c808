use Rattle.std.proofs.Common.{◌≡◌, ◌++◌, drop}
use Rattle.std.specs.List.{flat_map}
use Rattle.mi_script.specs.Written.{written_rec}
use Rattle.mi_script.proofs.written.put_recs.Given as goal

-- with those that are left, what is written is what all write
abbrev pub invariant-loop-rec : goal.invariant-loop-rec
invariant-loop-rec l = l.out.items ++ flat_map written_rec (drop l.rec-index l.recs) ≡ l.fn.out.items ++ flat_map written_rec l.recs
