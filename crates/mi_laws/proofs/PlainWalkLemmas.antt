-- A walk whose phases are plain is plain: by induction over the rows of its sequence.
use Rattle.std.proofs.Common.{◌≡◌, Bool, true, false, List, [], ◌∷◌, ◌++◌, codes, find, Option, Some, None, refl, sym, ap, subst, ◌∙◌, append_assoc, append-nil}
use Rattle.std.specs.Prelude.{◌&&◌, ◌==◌, fold, is_none, option_map, unwrap_or, Result, Ok, Err, IfOk, IfSome}
use Rattle.std.specs.List.{AllByRecursion}
use Rattle.std.specs.Result.{result_ok}
use Rattle.std.specs.FinMap.{insert}
use Rattle.mi_text.specs.Maps.{Name, same_name, is_among}
use Rattle.mi_text.specs.Lookups.{Lookups}
use Rattle.mi_text.specs.Path.{folder_of}
use Rattle.mi_text.specs.PropertyNames.{is_property_name}
use Rattle.mi_base.specs.declared.answers.Fault.{Fault}
use Rattle.mi_base.specs.declared.answers.Fault.TheVariants.{NoFinalize, Executable, BadName}
use Rattle.mi_base.specs.declared.answers.Cause.{Cause}
use Rattle.mi_base.specs.declared.answers.Cause.TheVariants.{Table}
use Rattle.mi_dirs.specs.Places.{with_own}
use Rattle.mi_dirs.specs.Faults.{path_fault, judged}
use Rattle.mi_schema.specs.TableRows.{Rows}
use Rattle.mi_schema.specs.declared.typed_rows.CustomActionRow.{CustomActionRow}
use Rattle.mi_schema.specs.declared.typed_rows.InstallExecuteSequenceRow.{InstallExecuteSequenceRow}
use Rattle.mi_schema.specs.TableRows.{Numbered}
use Rattle.mi_model.specs.Texts.{Text}
use Rattle.mi_model.specs.World.{Given, Costed, World, Effect}
use Rattle.mi_model.specs.Asked.{lookups}
use Rattle.mi_model.specs.Conditions.{holds}
use Rattle.mi_model.specs.Refusals.{expanded_or_empty}
use Rattle.mi_model.specs.States.{named}
use Rattle.mi_model.specs.Properties.{started, in_table, resolved, cost, moved_if, set_dir, set_property}
use Rattle.mi_model.specs.Selecting.{select}
use Rattle.mi_model.specs.Sequence.{is_costed, is_inside, sequence}
use Rattle.mi_model.specs.Steps.{Step, Plain, Launch, Cost, Runs, Ends, SetProperty, SetDirectory, Fails, in_order, base_type, runs_here, stands_right, custom, custom_step, custom_action, phase_or, is_action, ends_segment, without_effect, step_of}
use Rattle.mi_model.specs.LaunchConditions.{launch_refusal}
use Rattle.mi_model.specs.Phases.{phases, effect_of}
use Rattle.mi_model.specs.PhaseRows.{Touches, by_rows, phase_rows}
use Rattle.mi_model.specs.Cost.{all_rows}
use Rattle.mi_model.specs.Walk.{Part, Walked, at_start, refused, or_refused, with_world, with_rows, ended, unless_refused, taken, begin, acted, walked_row, at_end, walk, walked_on}
use Rattle.mi_laws.specs.PlainLaws.{HasProductCode, RowsArePlain, WalksArePlain}
use Rattle.mi_laws.proofs.PlainRowLemmas.{bound, behind, chosen, at_ok, ArePlainRows, IsPlainPhase, all-append, AreAllOnce, rows_once, plain_over, plain_front}
use Rattle.mi_laws.proofs.PlainCountLemmas.{AreOnce}
use Rattle.mi_laws.proofs.PlainPhaseLemmas.{phases_plain}

-- ---- the phases

found : (P : Effect → Type 0) (name : Name) (pairs : List (Name × Effect)) → AllByRecursion (λ (p : Name × Effect). P p.1) pairs → IfSome (named name pairs) P
found P name [] all = tt
found P name (p ∷ pairs) all =
    chosen (λ (o : Option (Name × Effect)). IfSome (option_map (λ (p : Name × Effect). p.1) o) P) (same_name name p.0) (Some p) (find (λ (p : Name × Effect). same_name name p.0) pairs)
    all.0 (found P name pairs all.1)

effect_plain : (action : Name) → IfSome (effect_of action) IsPlainPhase
unfolding effect_of
effect_plain action = found IsPlainPhase action phases phases_plain

phase_once : (effect : Effect) (w : World) → IsPlainPhase effect → HasProductCode w.given.rows → IfOk (phase_rows effect w) AreAllOnce
phase_once effect w plain code = bound ArePlainRows AreAllOnce (effect w) (by_rows w.machine) (plain w code) (λ rows all. rows_once w.machine rows all)

pub rows_are_plain : RowsArePlain
rows_are_plain action effect w rows is code ok = plain_over w.machine rows (at_ok AreAllOnce (phase_rows effect w) rows ok (phase_once effect w (at_some (effect_of action) is (effect_plain action)) code))
  where
    at_some : (o : Option Effect) → o ≡ Some effect → IfSome o IsPlainPhase → IsPlainPhase effect
    at_some None e h = cc
    at_some (Some other) e h = subst IsPlainPhase (some_is other effect e) h
      where
        some_is : (a b : Effect) → Some a ≡ Some b → a ≡ b
        some_is a b e = cc

-- ---- steps: what one runs is a phase

abbrev IsPlainStep : Step → Type 0
IsPlainStep Plain = Unit {0}
IsPlainStep Launch = Unit {0}
IsPlainStep Cost = Unit {0}
IsPlainStep (Runs effect) = IsPlainPhase effect
IsPlainStep Ends = Unit {0}
IsPlainStep (SetProperty name text) = Unit {0}
IsPlainStep (SetDirectory directory text) = Unit {0}
IsPlainStep (Fails text) = Unit {0}

abbrev MayBe : Result Step Fault → Type 0
MayBe r = IfOk r IsPlainStep

in_order_plain : (action : Name) (b : Bool) (step : Step) → IsPlainStep step → MayBe (in_order action b step)
in_order_plain action true step plain = plain
in_order_plain action false step plain = tt

custom_plain : (r : CustomActionRow) (text : Text) → IsPlainStep (custom r text)
custom_plain r text = chosen IsPlainStep (base_type r == 19) (Fails text) _ tt (chosen IsPlainStep (base_type r == 35) (SetDirectory (unwrap_or r.source []) text) (SetProperty (unwrap_or r.source []) text) tt tt)

custom_step_plain : (L : Lookups) (begun : List Name) (action : Name) (o : Option (Numbered CustomActionRow)) → MayBe (custom_step L begun action o)
custom_step_plain L begun action None = tt
custom_step_plain L begun action (Some n) =
    chosen MayBe (runs_here n.row) _ (Err (Executable action))
    (behind IsPlainStep (in_order action (stands_right n.row begun) n.row) _ (λ r. behind IsPlainStep (expanded_or_empty L (codes "CustomAction") n.number r.target) _ (λ text. custom_plain r text)))
    tt

phase_or_plain : (rows : Rows) (L : Lookups) (begun : List Name) (action : Name) (o : Option Effect) → IfSome o IsPlainPhase → MayBe (phase_or rows L begun action o)
phase_or_plain rows L begun action (Some effect) plain = in_order_plain action (is_inside begun) (Runs effect) plain
phase_or_plain rows L begun action None plain = chosen MayBe (is_among action without_effect) (Ok Plain) (custom_step L begun action (custom_action rows action)) tt (custom_step_plain L begun action (custom_action rows action))

step_plain : (rows : Rows) (L : Lookups) (begun : List Name) (action : Name) → MayBe (step_of rows L begun action)
unfolding step_of
step_plain rows L begun action =
    chosen MayBe (is_action action (codes "LaunchConditions")) (Ok Launch) _ tt
    (chosen MayBe (is_action action (codes "CostFinalize")) (Ok Cost) _ tt
    (chosen MayBe (is_action action (codes "InstallInitialize")) (in_order action (is_costed begun) Plain) _ (in_order_plain action (is_costed begun) Plain tt)
    (chosen MayBe (ends_segment action) (in_order action (is_inside begun) Ends) (phase_or rows L begun action (effect_of action)) (in_order_plain action (is_inside begun) Ends tt)
    (phase_or_plain rows L begun action (effect_of action) (effect_plain action)))))

-- ---- actions that keep what the walk is over

abbrev Keeps : World → World → Type 0
Keeps w v = v.given ≡ w.given

cost_keeps : (w : World) → IfOk (cost w) (Keeps w)
unfolding cost
cost_keeps w = behind (Keeps w) (resolved w.given w.props) _ (λ dirs. behind (Keeps w) (select w.given w.props dirs) _ (λ choice. refl))

set_dir_keeps : (directory : Name) (text : Text) (w : World) → IfOk (set_dir directory text w) (Keeps w)
unfolding set_dir
set_dir_keeps directory text w = by_costed w.costed
  where
    by_costed : (o : Option Costed) → IfOk (moved_if directory text o w) (Keeps w)
    by_costed (Some c) =
        let dirs = with_own directory (result_ok (folder_of text)) c.dirs in
        behind (Keeps w) (in_table (judged dirs (path_fault dirs))) _ (λ moved_dirs. refl)
    by_costed None = refl

set_property_keeps : (action name : Name) (text : Text) (w : World) → IfOk (set_property action name text w) (Keeps w)
unfolding set_property
set_property_keeps action name text w = chosen (λ (r : Result World Fault). IfOk r (Keeps w)) (is_property_name name) (Ok (record w { props = insert w.props name text })) (Err (BadName action)) refl tt

-- ---- a walk so far

abbrev rows_so_far : Walked → List Touches
rows_so_far w = all_rows w.parts ++ w.since

-- none of its rows names a name twice, over whatever machine
record IsPlainSoFar (g : Given) (w : Walked) : Type 0 where
  given : w.world.given ≡ g
  rows : AreAllOnce (rows_so_far w)

stopped : (g : Given) (w : Walked) (cause : Cause) → IsPlainSoFar g w → IsPlainSoFar g (refused cause w)
stopped g w cause o = record { given = o.given; rows = o.rows }

unless_stopped : (g : Given) (w : Walked) (cause : Option Cause) → IsPlainSoFar g w → IsPlainSoFar g (unless_refused cause w)
unless_stopped g w None o = o
unless_stopped g w (Some cause) o = stopped g w cause o

or_stopped : {A : Type 0} → (g : Given) (w : Walked) (P : A → Type 0) (r : Result A Fault) (next : A → Walked) → IfOk r P → ((a : A) → P a → IsPlainSoFar g (next a)) → IsPlainSoFar g w → IsPlainSoFar g (or_refused r next w)
or_stopped g w P (Ok a) next ok goes o = goes a ok
or_stopped g w P (Err fault) next ok goes o = stopped g w (Table fault) o

reset : (g : Given) (w : Walked) (r : Result World Fault) → IfOk r (Keeps w.world) → IsPlainSoFar g w → IsPlainSoFar g (or_refused r (with_world w) w)
reset g w r keeps o = or_stopped g w (Keeps w.world) r (with_world w) keeps (λ v k. record { given = k ∙ o.given; rows = o.rows }) o

ran : (g : Given) (w : Walked) (rows : List Touches) → AreAllOnce rows → IsPlainSoFar g w → IsPlainSoFar g (with_rows w rows)
ran g w rows once o = record { given = o.given; rows = subst AreAllOnce (append_assoc (all_rows w.parts) w.since rows) (all-append AreOnce (rows_so_far w) rows o.rows once) }

one_part_more : (parts : List Part) (p : Part) → all_rows (parts ++ p ∷ []) ≡ all_rows parts ++ p.rows
one_part_more [] p = append-nil p.rows
one_part_more (q ∷ parts) p = ap (λ (rows : List Touches). q.rows ++ rows) (one_part_more parts p) ∙ sym (append_assoc q.rows (all_rows parts) p.rows)

has_ended : (g : Given) (w : Walked) → IsPlainSoFar g w → IsPlainSoFar g (ended w)
has_ended g w o = record { given = o.given; rows = subst AreAllOnce (sym (append-nil (all_rows (ended w).parts) ∙ one_part_more w.parts _)) o.rows }

-- ---- each action

module _ (g : Given) (code : HasProductCode g.rows) where
  stepped : (action : Name) (w : Walked) (step : Step) → IsPlainStep step → IsPlainSoFar g w → IsPlainSoFar g (taken action w step)
  stepped action w Plain plain o = o
  stepped action w Launch plain o = unless_stopped g w (launch_refusal w.world.given.rows (lookups w.world)) o
  stepped action w Cost plain o = reset g w (cost w.world) (cost_keeps w.world) o
  stepped action w (Runs effect) plain o =
      or_stopped g w AreAllOnce (phase_rows effect w.world) (with_rows w) (phase_once effect w.world plain (subst (λ (h : Given). HasProductCode h.rows) (sym o.given) code)) (λ rows once. ran g w rows once o) o
  stepped action w Ends plain o = has_ended g w o
  stepped action w (SetProperty name text) plain o = reset g w (set_property action name text w.world) (set_property_keeps action name text w.world) o
  stepped action w (SetDirectory directory text) plain o = reset g w (set_dir directory text w.world) (set_dir_keeps directory text w.world) o
  stepped action w (Fails text) plain o = stopped g w _ o

  begun : (action : Name) (w : Walked) → IsPlainSoFar g w → IsPlainSoFar g (begin action w)
  begun action w o = record { given = o.given; rows = o.rows }

  has_acted : (action : Name) (w : Walked) → IsPlainSoFar g w → IsPlainSoFar g (acted action w)
  has_acted action w o =
      let now = begin action w in
      or_stopped g now IsPlainStep (step_of w.world.given.rows (lookups w.world) w.begun action) (taken action now) (step_plain w.world.given.rows (lookups w.world) w.begun action)
      (λ step plain. stepped action now step plain (begun action w o)) (begun action w o)

  over_row : (w : Walked) (r : InstallExecuteSequenceRow) → IsPlainSoFar g w → IsPlainSoFar g (walked_row w r)
  unfolding walked_row
  over_row w r o = chosen (IsPlainSoFar g) (is_none w.refusal && holds (lookups w.world) r.condition) (acted r.action w) w (has_acted r.action w o) o

  over_rows : (w : Walked) (rows : List InstallExecuteSequenceRow) → IsPlainSoFar g w → IsPlainSoFar g (fold walked_row w rows)
  over_rows w [] o = o
  over_rows w (r ∷ rows) o = over_rows (walked_row w r) rows (over_row w r o)

  over_end : (w : Walked) → IsPlainSoFar g w → IsPlainSoFar g (at_end w)
  over_end w o = chosen (IsPlainSoFar g) (is_none w.refusal && is_inside w.begun) (refused (Table NoFinalize) w) w (stopped g w (Table NoFinalize) o) o

  started_plain : IsPlainSoFar g (at_start g)
  unfolding at_start started
  started_plain = record { given = refl; rows = tt }

  whole : IsPlainSoFar g (walk g)
  unfolding walk walked_on
  whole = over_end (fold walked_row (at_start g) (sequence g.rows)) (over_rows (at_start g) (sequence g.rows) started_plain)

pub walks_are_plain : WalksArePlain
walks_are_plain g code = plain_front g.former (all_rows (walk g).parts) (walk g).since (whole g code).rows
