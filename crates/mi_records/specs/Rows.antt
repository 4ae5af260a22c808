-- What a call has made of a plan, or its refusal. (This project's own.)
use Rattle.std.specs.Prelude.{◌≡◌, ℕ, List, Result, Ok, Err}
use Rattle.mi_text.specs.Maps.{Map}
use Rattle.mi_base.specs.declared.entry.Entry.{Entry}
use Rattle.mi_source.specs.Paths.{Files}
use Rattle.mi_changes.specs.Touches.{Touch}
use Rattle.mi_model.specs.Texts.{Text}
use Rattle.mi_model.specs.World.{World, RowEffect, Effect}
use Rattle.mi_model.specs.PhaseRows.{by_rows, phase_rows}
use Rattle.mi_model.specs.Plans.{Plans}
use Rattle.mi_steps.specs.declared.plan.Plan.{Plan}
use Rattle.mi_steps.specs.Makes.{Makes, plan_machine}
use Rattle.mi_steps.specs.Rows.{FollowsRows}
use Rattle.mi_records.specs.declared.error.PlanError.{PlanError}
use Rattle.mi_records.specs.declared.error.PlanError.TheVariants as error
use Rattle.mi_records.specs.declared.stop.Stop.{Stop}
use Rattle.mi_records.specs.declared.stop.Stop.TheVariants.{NoMemory, Refused}
use Rattle.mi_records.specs.Stops.{fault_of}

module _ (held : Map (List ℕ)) (files : Files) (before after : Plan) where
  -- what a row touches was made
  pub record Made (effect : RowEffect) : Type 0 where
    pub touches : List (Touch Entry)
    pub gives : effect (plan_machine held files before) ≡ Ok touches
    pub makes : Makes held files before after touches

  -- these touches were made; nothing is refused
  abbrev pub Only : {A : Type 0} → List (Touch Entry) → Result A Stop → Type 0
  Only touches (Ok done) = Makes held files before after touches
  Only touches (Err NoMemory) = Unit {0}
  Only touches (Err (Refused why)) = ⊥

  -- of the row with this number of a table
  abbrev pub RowIn : {A : Type 0} → Text → ℕ → RowEffect → Result A Stop → Type 0
  RowIn table row effect (Ok done) = Made effect
  RowIn table row effect (Err NoMemory) = Unit {0}
  RowIn table row effect (Err (Refused why)) = effect (plan_machine held files before) ≡ Err (fault_of table row why)

  abbrev pub Row : {A : Type 0} → RowEffect → Result A PlanError → Type 0
  Row effect (Ok done) = Made effect
  Row effect (Err error.NoMemory) = Unit {0}
  Row effect (Err (error.Fault f)) = effect (plan_machine held files before) ≡ Err f

  -- each over what the earlier ones left
  abbrev pub Rows : {A : Type 0} → List RowEffect → Result A PlanError → Type 0
  Rows effects (Ok done) = FollowsRows files (plan_machine held files before) (plan_machine held files after) before.script after.script effects
  Rows effects (Err error.NoMemory) = Unit {0}
  Rows effects (Err (error.Fault f)) = by_rows (plan_machine held files before) effects ≡ Err f

  -- a whole phase over a world
  abbrev pub Phase : {A : Type 0} → Effect → World → Result A PlanError → Type 0
  Phase effect w (Ok done) = Plans files effect w (plan_machine held files after) before.script after.script
  Phase effect w (Err error.NoMemory) = Unit {0}
  Phase effect w (Err (error.Fault f)) = phase_rows effect w ≡ Err f
