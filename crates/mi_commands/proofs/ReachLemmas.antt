-- No segment of a walk ends behind more actions than the walk begins.
use Rattle.std.proofs.Common.{ℕ, ◌≤◌, arith, Bool, true, false, cond, List, [], ◌∷◌, ◌++◌, length, Option, None, Some, Result, Ok, Err}
use Rattle.std.specs.Prelude.{◌&&◌, fold, is_none}
use Rattle.std.proofs.lemmas.List.{length-append}
use Rattle.mi_text.specs.Maps.{Name}
use Rattle.mi_base.specs.declared.answers.Fault.{Fault}
use Rattle.mi_base.specs.declared.answers.Fault.TheVariants.{NoFinalize}
use Rattle.mi_base.specs.declared.answers.Cause.{Cause}
use Rattle.mi_base.specs.declared.answers.Cause.TheVariants.{Table}
use Rattle.mi_schema.specs.declared.typed_rows.InstallExecuteSequenceRow.{InstallExecuteSequenceRow}
use Rattle.mi_model.specs.World.{Given}
use Rattle.mi_model.specs.Asked.{lookups}
use Rattle.mi_model.specs.Conditions.{holds}
use Rattle.mi_model.specs.Properties.{cost, set_dir, set_property}
use Rattle.mi_model.specs.Sequence.{is_inside, sequence}
use Rattle.mi_model.specs.Steps.{Step, Plain, Launch, Cost, Runs, Ends, SetProperty, SetDirectory, Fails, step_of}
use Rattle.mi_model.specs.LaunchConditions.{launch_refusal}
use Rattle.mi_model.specs.PhaseRows.{phase_rows}
use Rattle.mi_model.specs.Walk.{Part, Walked, at_start, refused, or_refused, with_world, with_rows, unless_refused, taken, begin, acted, walked_row, at_end, walked_on, walk}

-- each segment ends behind so many actions at most
abbrev pub Within : ℕ → List Part → Type 0
Within n [] = Unit {0}
Within n (p ∷ parts) = (p.reached ≤ n) × Within n parts

abbrev pub Reaching : Walked → Type 0
Reaching w = Within (length w.begun) w.parts

pub later : (n m : ℕ) (parts : List Part) → n ≤ m → Within n parts → Within m parts
later n m [] le within = tt
later n m (p ∷ parts) le within = (omega (arith, le, within.0), later n m parts le within.1)

pub one_more : (n : ℕ) (parts : List Part) (p : Part) → p.reached ≤ n → Within n parts → Within n (parts ++ p ∷ [])
one_more n [] p le within = (le, tt)
one_more n (q ∷ parts) p le within = (within.0, one_more n parts p le within.1)

or_reach : {A : Type 0} (r : Result A Fault) (next : A → Walked) (w : Walked) → ((x : A) → Reaching (next x)) → Reaching w → Reaching (or_refused r next w)
or_reach (Ok x) next w goes stays = goes x
or_reach (Err fault) next w goes stays = stays

unless_reach : (cause : Option Cause) (w : Walked) → Reaching w → Reaching (unless_refused cause w)
unless_reach None w reach = reach
unless_reach (Some cause) w reach = reach

step_reach : (action : Name) (w : Walked) (step : Step) → Reaching w → Reaching (taken action w step)
step_reach action w Plain reach = reach
step_reach action w Launch reach = unless_reach (launch_refusal w.world.given.rows (lookups w.world)) w reach
step_reach action w Cost reach = or_reach (cost w.world) (with_world w) w (λ x. reach) reach
step_reach action w (Runs effect) reach = or_reach (phase_rows effect w.world) (with_rows w) w (λ x. reach) reach
step_reach action w Ends reach = one_more (length w.begun) w.parts (record { rows = w.since; reached = length w.begun }) (omega arith) reach
step_reach action w (SetProperty name text) reach = or_reach (set_property action name text w.world) (with_world w) w (λ x. reach) reach
step_reach action w (SetDirectory directory text) reach = or_reach (set_dir directory text w.world) (with_world w) w (λ x. reach) reach
step_reach action w (Fails text) reach = reach

begin_reach : (action : Name) (w : Walked) → Reaching w → Reaching (begin action w)
begin_reach action w reach = let more = length-append w.begun (action ∷ []) in later (length w.begun) (length (w.begun ++ action ∷ [])) w.parts (omega (arith, more)) reach

act_reach : (action : Name) (w : Walked) → Reaching w → Reaching (acted action w)
act_reach action w reach =
    or_reach (step_of w.world.given.rows (lookups w.world) w.begun action) (taken action (begin action w)) (begin action w) (λ step. step_reach action (begin action w) step (begin_reach action w reach)) (begin_reach action w reach)

row_reach : (w : Walked) (r : InstallExecuteSequenceRow) → Reaching w → Reaching (walked_row w r)
unfolding walked_row
row_reach w r reach = by_test (is_none w.refusal && holds (lookups w.world) r.condition)
  where
    by_test : (b : Bool) → Reaching (cond b (acted r.action w) w)
    by_test true = act_reach r.action w reach
    by_test false = reach

rows_reach : (w : Walked) (rows : List InstallExecuteSequenceRow) → Reaching w → Reaching (fold walked_row w rows)
rows_reach w [] reach = reach
rows_reach w (r ∷ rows) reach = rows_reach (walked_row w r) rows (row_reach w r reach)

end_reach : (w : Walked) → Reaching w → Reaching (at_end w)
end_reach w reach = by_test (is_none w.refusal && is_inside w.begun)
  where
    by_test : (b : Bool) → Reaching (cond b (refused (Table NoFinalize) w) w)
    by_test true = reach
    by_test false = reach

start_reach : (g : Given) → Reaching (at_start g)
unfolding at_start
start_reach g = tt

pub walk_reach : (g : Given) → Reaching (walk g)
unfolding walk walked_on
walk_reach g = end_reach (fold walked_row (at_start g) (sequence g.rows)) (rows_reach (at_start g) (sequence g.rows) (start_reach g))
