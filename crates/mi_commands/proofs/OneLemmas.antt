-- One map after, whatever the source reports.
use Rattle.std.proofs.Common.{◌≡◌, inl, inr, ⊎_elim, ◌≤◌, true}
use Rattle.mi_volume.specs.Maps.{Map}
use Rattle.mi_volume.specs.State.{State, GoesOn}
use Rattle.mi_volume.proofs.Moments.{joined, weaker}
use Rattle.mi_undo.specs.Stands.{StandsFor, outside}
use Rattle.mi_undo.specs.Keeps.{Each}
use Rattle.mi_base.specs.declared.answers.Cause.{Cause}
use Rattle.mi_base.specs.declared.answers.Cause.TheVariants.{Table}
use Rattle.mi_base.specs.declared.answers.Place.{Place}
use Rattle.mi_base.specs.declared.answers.Place.TheVariants.{InRollback, InCommit}
use Rattle.mi_base.specs.declared.answers.Kind.{Kind}
use Rattle.mi_base.specs.declared.answers.Kind.TheVariants.{Done, Listed, Recovered, Refused, Suspended, NoMemory}
use Rattle.mi_model.specs.Causes.{BelowCount}
use Rattle.mi_carry.specs.OneMap.{MayStandFor, PausesFor, ExitsFor, LeavesOne}
use Rattle.mi_commands.specs.Walks.{is_sized}
use Rattle.mi_commands.proofs.EndLemmas.{may_commit, below_before}

-- ---- nothing but the former map

pause_former : (F : Map) (place : Place) (d : Map) → StandsFor F d → PausesFor F F place d
pause_former F InRollback d is = is
pause_former F InCommit d is = inl is

exit_former : (F : Map) (kind : Kind) (d : Map) → StandsFor F d → ExitsFor F F kind d
exit_former F Done d is = is
exit_former F Listed d is = is
exit_former F (Recovered settled) d is = is
exit_former F (Refused cause) d is = is
exit_former F (Suspended pause) d is = pause_former F pause.place d is
exit_former F NoMemory d is = is

pub one_former : (s t : State) (F : Map) (kind : Kind) → GoesOn s t (StandsFor F) → Each t (StandsFor F) → (kind ≡ Done → outside t.held ≡ F) → LeavesOne s t F F kind
one_former s t F kind goes leaves reads = record {
  stops = weaker s t (StandsFor F) (MayStandFor F F (BelowCount s.faults t.faults) kind) (λ d is. inl is) goes;
  leaves = λ d image. exit_former F kind d (leaves d image);
  reads = reads;
}

-- ---- with what was done before

pub one_then : (s t u : State) (F A : Map) (kind : Kind) → s.faults ≤ t.faults → t.faults ≤ u.faults → GoesOn s t (StandsFor F) → LeavesOne t u F A kind → LeavesOne s u F A kind
one_then s t u F A kind le more goes one = record {
  stops = joined s t u (MayStandFor F A (BelowCount s.faults u.faults) kind)
      (weaker s t (StandsFor F) (MayStandFor F A (BelowCount s.faults u.faults) kind) (λ d is. inl is) goes)
      (weaker t u (MayStandFor F A (BelowCount t.faults u.faults) kind) (MayStandFor F A (BelowCount s.faults u.faults) kind)
      (λ d is. ⊎_elim (λ former. inl former) (λ may. inr (may_commit (BelowCount t.faults u.faults) (BelowCount s.faults u.faults) (below_before s.faults t.faults u.faults le more) kind may.0, may.1)) is) one.stops);
  leaves = one.leaves;
  reads = one.reads;
}

-- ---- out of memory, where the line of a refusal by the length of a file couldn't be made

late_stand : (F A : Map) (rose : Type 0) (cause : Cause) → is_sized cause ≡ true → (d : Map) → MayStandFor F A rose (Refused cause) d → MayStandFor F A rose NoMemory d
late_stand F A rose (Table fault) is d (inl stands) = inl stands
late_stand F A rose (Table fault) is d (inr may) = absurd may.0
late_stand F A rose other is d may = absurd cc

pub one_late : (s u : State) (F A : Map) (cause : Cause) → is_sized cause ≡ true → LeavesOne s u F A (Refused cause) → LeavesOne s u F A NoMemory
one_late s u F A cause is one = record {
  stops = weaker s u (MayStandFor F A (BelowCount s.faults u.faults) (Refused cause)) (MayStandFor F A (BelowCount s.faults u.faults) NoMemory) (late_stand F A (BelowCount s.faults u.faults) cause is) one.stops;
  leaves = one.leaves;
  reads = λ done. absurd cc;
}
