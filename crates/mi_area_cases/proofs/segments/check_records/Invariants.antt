-- Each record so far may be carried out.
use Rattle.std.proofs.Common.{ℕ, ◌<◌, get_or}
use Rattle.mi_script.specs.declared.rec.Rec.{Rec}
use Rattle.mi_runner.specs.Records.{MayCarry}
use Rattle.mi_area_cases.proofs.segments.check_records.Given as goal

abbrev pub invariant-loop-rec : goal.invariant-loop-rec
invariant-loop-rec l = (k : ℕ) (d : Rec) → k < l.rec-index → MayCarry (get_or l.recs k d)
