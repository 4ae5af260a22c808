-- What carrying out a walk leaves whatever its source reports: each image stands for the former map F, or for one and the same other map A.
-- (Rollback Installation; the volume and its images are this project's own.)
use Rattle.std.specs.Prelude.{◌≡◌, ◌⊎◌}
use Rattle.mi_volume.specs.Maps.{Map}
use Rattle.mi_volume.specs.State.{State, GoesOn}
use Rattle.mi_undo.specs.Stands.{StandsFor, outside}
use Rattle.mi_undo.specs.Keeps.{Each, EitherFor}
use Rattle.mi_base.specs.declared.answers.Place.{Place}
use Rattle.mi_base.specs.declared.answers.Place.TheVariants.{InRollback, InCommit}
use Rattle.mi_base.specs.declared.answers.Kind.{Kind}
use Rattle.mi_base.specs.declared.answers.Kind.TheVariants.{Done, Suspended}
use Rattle.mi_model.specs.Causes.{BelowCount}
use Rattle.mi_model.specs.Leaves.{MayCommit}

-- an image at a moment since the run began: it stands for A only if the answer is one after which the commit may have begun
abbrev pub MayStandFor : Map → Map → Type 0 → Kind → Map → Type 0
MayStandFor F A rose kind d = StandsFor F d ⊎ (MayCommit rose kind × StandsFor A d)

abbrev pub PausesFor : Map → Map → Place → Map → Type 0
PausesFor F A InRollback d = StandsFor F d
PausesFor F A InCommit d = EitherFor F A d

-- an image at its end
abbrev pub ExitsFor : Map → Map → Kind → Map → Type 0
ExitsFor F A Done d = StandsFor A d
ExitsFor F A (Suspended pause) d = PausesFor F A pause.place d
ExitsFor F A other d = StandsFor F d

-- all of it
pub record LeavesOne (old new : State) (F A : Map) (kind : Kind) : Type 0 where
  -- each image at a moment since it began
  pub stops : GoesOn old new (MayStandFor F A (BelowCount old.faults new.faults) kind)
  -- each image at its end
  pub leaves : Each new (ExitsFor F A kind)
  -- what reads outside the rollback area give after Done
  pub reads : kind ≡ Done → outside new.held ≡ A
