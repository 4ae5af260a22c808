-- Rows that are refused.
use Rattle.std.proofs.Common.{◌≡◌, ℕ, List}
use Rattle.std.specs.Prelude.{Result, Err}
use Rattle.mi_text.specs.Maps.{Map}
use Rattle.mi_base.specs.declared.answers.Fault.{Fault}
use Rattle.mi_source.specs.Paths.{Files}
use Rattle.mi_model.specs.World.{RowEffect}
use Rattle.mi_steps.specs.declared.plan.Plan.{Plan}
use Rattle.mi_steps.specs.Makes.{plan_machine}
use Rattle.mi_records.specs.declared.error.PlanError.{PlanError}
use Rattle.mi_records.specs.declared.error.PlanError.TheVariants as error
use Rattle.mi_records.specs.Rows.{Row}
use Rattle.mi_records.specs.Stops.{TellsBy}

-- a row that what refuses one of its columns refuses
pub row_untold : {A C : Type 0} (held : Map (List ℕ)) (files : Files) (a b : Plan) (B : Type 0) (seen : A → C) (x : Result C Fault) (y : RowEffect) (e : PlanError)
    → ((f : Fault) → x ≡ Err f → y (plan_machine held files a) ≡ Err f) → TellsBy seen x (Err e) → Row held files a b {A = B} y (Err e)
row_untold held files a b B seen x y error.NoMemory then is = tt
row_untold held files a b B seen x y (error.Fault f) then is = then f is

-- what refuses the one refuses the other
pub told_on : {A B C D : Type 0} (seen : A → B) (seen' : C → D) (x : Result B Fault) (y : Result D Fault) (e : PlanError) → ((f : Fault) → x ≡ Err f → y ≡ Err f) → TellsBy seen x (Err e) → TellsBy seen' y (Err e)
told_on seen seen' x y error.NoMemory then is = tt
told_on seen seen' x y (error.Fault f) then is = then f is
