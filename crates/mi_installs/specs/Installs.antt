-- What carrying out the rows of InstallFiles has made of a plan, or why it isn't done. (InstallFiles Action; this project's own.)
use Rattle.std.specs.Prelude.{◌≡◌, ℕ, List, Result, Ok, Err}
use Rattle.mi_text.specs.Maps.{Map}
use Rattle.mi_base.specs.declared.answers.Fault.{Fault}
use Rattle.mi_model.specs.World.{World, RowEffect, Effect}
use Rattle.mi_model.specs.InstallFiles.{Placed, source_bytes, installed_file, file_with_parents}
use Rattle.mi_model.specs.Refusals.{◌>>=◌}
use Rattle.mi_steps.specs.declared.plan.Plan.{Plan}
use Rattle.mi_records.specs.declared.error.PlanError.{PlanError}
use Rattle.mi_records.specs.declared.error.PlanError.TheVariants as planned
use Rattle.mi_records.specs.Rows.{Row, Rows, Phase}
use Rattle.mi_installs.specs.declared.error.InstallError.{InstallError}
use Rattle.mi_installs.specs.declared.error.InstallError.TheVariants as error

-- ---- answers

-- the error of a call that asks devices is this fault, or want of memory
abbrev pub Refuses : Fault → InstallError → Type 0
Refuses f error.NoMemory = Unit {0}
Refuses f (error.Fault g) = g ≡ f
Refuses f error.Source = ⊥
Refuses f error.Volume = ⊥

-- what is found is right, or is refused so; where the source has failed nothing is said of it
abbrev pub Finds : {A B : Type 0} → Result B Fault → Result A InstallError → Type 0
Finds {B = B} does (Ok done) = (found : B) × (does ≡ Ok found)
Finds does (Err error.NoMemory) = Unit {0}
Finds does (Err (error.Fault f)) = does ≡ Err f
Finds does (Err error.Source) = Unit {0}
Finds does (Err error.Volume) = ⊥

-- an answer as plan calls have it that ask no device: where one has failed, no more is said than where memory ran out
abbrev pub as_planned : {A : Type 0} → Result A InstallError → Result A PlanError
as_planned (Ok done) = Ok done
as_planned (Err error.NoMemory) = Err planned.NoMemory
as_planned (Err (error.Fault f)) = Err (planned.Fault f)
as_planned (Err error.Source) = Err planned.NoMemory
as_planned (Err error.Volume) = Err planned.NoMemory

-- the error of such a call
abbrev pub as_install : PlanError → InstallError
as_install planned.NoMemory = error.NoMemory
as_install (planned.Fault f) = error.Fault f

-- ---- what is made

-- what a row touches that is written
abbrev pub written_row : World → Placed → RowEffect
written_row w p m = source_bytes w p.row >>= λ bytes. Ok (file_with_parents (installed_file w p bytes))

module _ (held files : Map (List ℕ)) (before after : Plan) where
  abbrev pub InstallRow : {A : Type 0} → RowEffect → Result A InstallError → Type 0
  InstallRow effect r = Row held files before after effect (as_planned r)

  -- each over what the earlier ones left
  abbrev pub InstallRows : {A : Type 0} → List RowEffect → Result A InstallError → Type 0
  InstallRows effects r = Rows held files before after effects (as_planned r)

  -- a whole phase over a world
  abbrev pub InstallPhase : {A : Type 0} → Effect → World → Result A InstallError → Type 0
  InstallPhase effect w r = Phase held files before after effect w (as_planned r)
