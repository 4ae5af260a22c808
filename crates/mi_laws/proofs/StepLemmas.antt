-- What a row makes of a walk that isn't refused, neither before it nor after it.
use Rattle.std.proofs.Common.{◌≡◌, Bool, true, false, cond, List, Option, Some, None, Result, Ok, Err, refl, sym, ap, subst}
use Rattle.std.specs.Prelude.{◌&&◌, codes, is_none, option_map}
use Rattle.std.specs.Result.{result_ok}
use Rattle.std.specs.FinMap.{insert}
use Rattle.mi_text.specs.Maps.{Name, same_name}
use Rattle.mi_text.specs.Path.{folder_of}
use Rattle.mi_text.specs.PropertyNames.{is_property_name}
use Rattle.mi_base.specs.declared.answers.Cause.{Cause}
use Rattle.mi_base.specs.declared.answers.Fault.{Fault}
use Rattle.mi_base.specs.declared.answers.Fault.TheVariants.{BadName}
use Rattle.mi_dirs.specs.Places.{with_own}
use Rattle.mi_dirs.specs.Faults.{path_fault, judged}
use Rattle.mi_schema.specs.declared.typed_rows.InstallExecuteSequenceRow.{InstallExecuteSequenceRow}
use Rattle.mi_model.specs.World.{World, Effect, Costed}
use Rattle.mi_model.specs.Asked.{lookups}
use Rattle.mi_model.specs.Conditions.{holds}
use Rattle.mi_model.specs.Properties.{in_table, placed, cost, moved_if, set_dir, set_property}
use Rattle.mi_model.specs.PhaseRows.{Touches, phase_rows}
use Rattle.mi_model.specs.Sequence.{is_inside}
use Rattle.mi_model.specs.Walk.{Walked, or_refused, unless_refused, with_world, with_rows, ended, begin, acted, taken, walked_row}
use Rattle.mi_model.specs.Steps.{Step, Plain, Launch, Cost, Runs, Ends, SetProperty, SetDirectory, Fails, step_of}
use Rattle.mi_model.specs.Phases.{effect_of}
use Rattle.mi_model.specs.ComponentRows.{choice_of}
use Rattle.mi_model.specs.LaunchConditions.{launch_refusal}
use Rattle.mi_model.specs.Texts.{Text}
use Rattle.mi_model_laws.proofs.RowLemmas.{from_ok, bound}
use Rattle.mi_laws.proofs.StepKindLemmas.{IsNoCost, IsOuter, IsPlain, StepIs, step_is}

abbrev Row : Type 0
Row = InstallExecuteSequenceRow

pub record KeepsChoice (w u : World) : Type 0 where
  pub given : u.given ≡ w.given
  pub machine : u.machine ≡ w.machine
  pub choice : choice_of u ≡ choice_of w

pub data Steps (w : Walked) (action : Name) (v : Walked) : Type 0 where
  Passed : (is : v ≡ w) → Steps w action v
  Idle : (outer : IsOuter w.begun action) → (no_cost : IsNoCost action) → (is : v ≡ begin action w) → Steps w action v
  Costs : (outer : IsOuter w.begun action) → (named : same_name action (codes "CostFinalize") ≡ true) → (u : World) → (costs : cost w.world ≡ Ok u) → (is : v ≡ with_world (begin action w) u) → Steps w action v
  Moves : (outer : IsOuter w.begun action) → (no_cost : IsNoCost action) → (u : World) → (keeps : KeepsChoice w.world u) → (is : v ≡ with_world (begin action w) u) → Steps w action v
  Ran : (effect : Effect) → (phase : effect_of action ≡ Some effect) → (rows : List Touches) → (touched : phase_rows effect w.world ≡ Ok rows) → (inside : is_inside w.begun ≡ true) → (is : v ≡ with_rows (begin action w) rows) → Steps w action v
  Ended : (inside : is_inside w.begun ≡ true) → (no_cost : IsNoCost action) → (no_phase : effect_of action ≡ None) → (is : v ≡ ended (begin action w)) → Steps w action v

same_choice : (w u v : World) → KeepsChoice w u → ◌≡◌ {A = Result World Fault} (Ok u) (Ok v) → KeepsChoice w v
same_choice w u v k e = subst (KeepsChoice w) (from_ok u v e) k

set_property_choice : (action name : Name) (text : Text) (w v : World) → set_property action name text w ≡ Ok v → KeepsChoice w v
unfolding set_property
set_property_choice action name text w v e = by (is_property_name name) e
  where
    by : (b : Bool) → cond b (Ok (record w { props = insert w.props name text })) (Err (BadName action)) ≡ Ok v → KeepsChoice w v
    by true e = same_choice w _ v (record { given = refl; machine = refl; choice = refl }) e
    by false e = cc

set_dir_choice : (directory : Name) (text : Text) (w v : World) → set_dir directory text w ≡ Ok v → KeepsChoice w v
unfolding set_dir
set_dir_choice directory text w v e = by w.costed refl e
  where
    by : (o : Option Costed) → w.costed ≡ o → moved_if directory text o w ≡ Ok v → KeepsChoice w v
    by (Some c) is e =
        let dirs = with_own directory (result_ok (folder_of text)) c.dirs in
        let moved = bound (in_table (judged dirs (path_fault dirs))) (λ moved_dirs. Ok (placed moved_dirs c.choice w)) v e in
        same_choice w (placed moved.value c.choice w) v (record { given = refl; machine = refl; choice = sym (ap (option_map (λ (c : Costed). c.choice)) is) }) moved.rest
    by None is e = same_choice w w v (record { given = refl; machine = refl; choice = refl }) e

module _ (w : Walked) (action : Name) (none : w.refusal ≡ None) where
  by_launch : (o : Option Cause) → IsPlain w.begun action → (unless_refused o (begin action w)).refusal ≡ None → Steps w action (unless_refused o (begin action w))
  by_launch None isnt e = Idle isnt.0 isnt.1 refl
  by_launch (Some cause) isnt e = cc

  by_cost : (r : Result World Fault) → cost w.world ≡ r → IsOuter w.begun action → same_name action (codes "CostFinalize") ≡ true → (or_refused r (with_world (begin action w)) (begin action w)).refusal ≡ None → Steps w action (or_refused r (with_world (begin action w)) (begin action w))
  by_cost (Ok u) is isnt named e = Costs isnt named u is refl
  by_cost (Err fault) is isnt named e = cc

  by_moved : (r : Result World Fault) → ((u : World) → r ≡ Ok u → KeepsChoice w.world u) → IsPlain w.begun action → (or_refused r (with_world (begin action w)) (begin action w)).refusal ≡ None → Steps w action (or_refused r (with_world (begin action w)) (begin action w))
  by_moved (Ok u) keeps isnt e = Moves isnt.0 isnt.1 u (keeps u refl) refl
  by_moved (Err fault) keeps isnt e = cc

  by_rows_of : (effect : Effect) (r : Result (List Touches) Fault) → phase_rows effect w.world ≡ r → effect_of action ≡ Some effect → is_inside w.begun ≡ true → (or_refused r (with_rows (begin action w)) (begin action w)).refusal ≡ None → Steps w action (or_refused r (with_rows (begin action w)) (begin action w))
  by_rows_of effect (Ok rows) is phase inside e = Ran effect phase rows is inside refl
  by_rows_of effect (Err fault) is phase inside e = cc

  by_step : (step : Step) → StepIs w.begun action step → (taken action (begin action w) step).refusal ≡ None → Steps w action (taken action (begin action w) step)
  by_step Plain is e = Idle is.0 is.1 refl
  by_step Launch is e = by_launch (launch_refusal w.world.given.rows (lookups w.world)) is e
  by_step Cost is e = by_cost (cost w.world) refl is.0 is.1 e
  by_step (Runs effect) is e = by_rows_of effect (phase_rows effect w.world) refl is.0 is.1 e
  by_step Ends is e = Ended is.0 is.1 is.2 refl
  by_step (SetProperty name text) is e = by_moved (set_property action name text w.world) (set_property_choice action name text w.world) is e
  by_step (SetDirectory directory text) is e = by_moved (set_dir directory text w.world) (set_dir_choice directory text w.world) is e
  by_step (Fails text) is e = cc

  by_acted : (s : Result Step Fault) → step_of w.world.given.rows (lookups w.world) w.begun action ≡ s → (or_refused s (taken action (begin action w)) (begin action w)).refusal ≡ None → Steps w action (or_refused s (taken action (begin action w)) (begin action w))
  by_acted (Ok step) is e = by_step step (step_is w.begun action w.world.given.rows (lookups w.world) step is) e
  by_acted (Err fault) is e = cc

  by_test : (b : Bool) → (cond b (acted action w) w).refusal ≡ None → Steps w action (cond b (acted action w) w)
  by_test true e = by_acted (step_of w.world.given.rows (lookups w.world) w.begun action) refl e
  by_test false e = Passed refl

pub row_steps : (w : Walked) (r : Row) → w.refusal ≡ None → (walked_row w r).refusal ≡ None → Steps w r.action (walked_row w r)
unfolding walked_row
row_steps w r none e = by_test w r.action none (is_none w.refusal && holds (lookups w.world) r.condition) e
