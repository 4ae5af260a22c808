use Rattle.std.proofs.Common.{◌≡◌, vec_len}
use Rattle.mi_text.specs.Lookups.{Lookups}
use Rattle.mi_format.specs.Scan.{State}
use Rattle.mi_format.specs.State.{Part}
use Rattle.mi_format.specs.Kept.{kept_state}
use Rattle.mi_format.specs.Marks.{frames_of, state_of}
use Rattle.mi_format.proofs.StepLemmas.{Ends}
use Rattle.mi_format.proofs.scan.Scan.end.Given as goal

abbrev pub invariant-loop-mark : goal.invariant-loop-mark
invariant-loop-mark l = (L : Lookups) (full : State Part) → state_of l.fn.self ≡ kept_state l.most full → Ends L l.most full (frames_of l.marks.items) l.current

abbrev pub decreases-loop-mark : goal.decreases-loop-mark
decreases-loop-mark l = vec_len l.marks
