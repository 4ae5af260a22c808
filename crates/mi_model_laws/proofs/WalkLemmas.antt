-- What a walk keeps and what it leaves.
use Rattle.std.proofs.Common.{◌≡◌, Bool, true, false, cond, List, [], ◌∷◌, ◌++◌, Option, Some, None, refl, sym, ap, ◌∙◌, append_assoc}
use Rattle.std.proofs.lemmas.List.{append-nil}
use Rattle.std.specs.Prelude.{◌&&◌, fold, is_none, Result, Ok, Err}
use Rattle.std.specs.List.{flat_map}
use Rattle.std.specs.Result.{result_ok}
use Rattle.std.specs.FinMap.{get, insert}
use Rattle.mi_text.specs.Maps.{Name}
use Rattle.mi_text.specs.Path.{folder_of}
use Rattle.mi_text.specs.PropertyNames.{is_property_name}
use Rattle.mi_base.specs.declared.entry.Entry.{Entry}
use Rattle.mi_base.specs.declared.answers.Fault.{Fault}
use Rattle.mi_base.specs.declared.answers.Fault.TheVariants.{BadName, NoFinalize}
use Rattle.mi_base.specs.declared.answers.Cause.{Cause}
use Rattle.mi_base.specs.declared.answers.Cause.TheVariants.{Table}
use Rattle.mi_base.specs.Machine.{Machine}
use Rattle.mi_dirs.specs.Places.{with_own}
use Rattle.mi_dirs.specs.Faults.{path_fault, judged}
use Rattle.mi_schema.specs.declared.typed_rows.InstallExecuteSequenceRow.{InstallExecuteSequenceRow}
use Rattle.mi_changes.specs.Touches.{left_at}
use Rattle.mi_changes.proofs.TouchLemmas.{left_at-append}
use Rattle.mi_model.specs.Texts.{Text}
use Rattle.mi_model.specs.World.{Given, Costed, World}
use Rattle.mi_model.specs.Asked.{lookups}
use Rattle.mi_model.specs.Conditions.{holds}
use Rattle.mi_model.specs.Refusals.{◌>>=◌}
use Rattle.mi_model.specs.Properties.{started, in_table, resolved, placed, cost, moved_if, set_dir, set_property}
use Rattle.mi_model.specs.Selecting.{select}
use Rattle.mi_model.specs.Sequence.{is_inside, sequence}
use Rattle.mi_model.specs.Steps.{Step, Plain, Launch, Cost, Runs, Ends, SetProperty, SetDirectory, Fails, step_of}
use Rattle.mi_model.specs.LaunchConditions.{launch_refusal}
use Rattle.mi_model.specs.PhaseRows.{Touches, after_rows, phase_rows}
use Rattle.mi_model.specs.Walk.{Part, Walked, at_start, refused, or_refused, with_world, with_rows, ended, unless_refused, taken, begin, acted, walked_row, at_end, walked_on, walk, ended_rows, last_machine}
use Rattle.mi_model.specs.Plans.{all_touches}
use Rattle.mi_model_laws.specs.WalkLaws.{WalksOver}
use Rattle.mi_model_laws.proofs.RowLemmas.{from_ok, bound, left_by_rows, get-after_rows, after-append}

-- ---- actions that set properties and directories keep the machine and what the walk is over

pub record Keeps (w v : World) : Type 0 where
  pub given : v.given ≡ w.given
  pub machine : v.machine ≡ w.machine

same_keeps : (w u v : World) → Keeps w u → ◌≡◌ {A = Result World Fault} (Ok u) (Ok v) → Keeps w v
same_keeps w u v k e =
    let is = sym (from_ok u v e) in
    record { given = ap (λ (x : World). x.given) is ∙ k.given; machine = ap (λ (x : World). x.machine) is ∙ k.machine }

pub cost_keeps : (w v : World) → cost w ≡ Ok v → Keeps w v
unfolding cost
cost_keeps w v e =
    let dirs = bound (resolved w.given w.props) (λ dirs. select w.given w.props dirs >>= λ choice. Ok (placed dirs choice w)) v e in
    let choice = bound (select w.given w.props dirs.value) (λ choice. Ok (placed dirs.value choice w)) v dirs.rest in
    same_keeps w (placed dirs.value choice.value w) v (record { given = refl; machine = refl }) choice.rest

pub set_dir_keeps : (directory : Name) (text : Text) (w v : World) → set_dir directory text w ≡ Ok v → Keeps w v
unfolding set_dir
set_dir_keeps directory text w v e = by_costed w.costed e
  where
    by_costed : (o : Option Costed) → moved_if directory text o w ≡ Ok v → Keeps w v
    by_costed (Some c) e =
        let dirs = with_own directory (result_ok (folder_of text)) c.dirs in
        let moved = bound (in_table (judged dirs (path_fault dirs))) (λ moved_dirs. Ok (placed moved_dirs c.choice w)) v e in
        same_keeps w (placed moved.value c.choice w) v (record { given = refl; machine = refl }) moved.rest
    by_costed None e = same_keeps w w v (record { given = refl; machine = refl }) e

pub set_property_keeps : (action name : Name) (text : Text) (w v : World) → set_property action name text w ≡ Ok v → Keeps w v
unfolding set_property
set_property_keeps action name text w v e = by_name (is_property_name name) e
  where
    by_name : (b : Bool) → cond b (Ok (record w { props = insert w.props name text })) (Err (BadName action)) ≡ Ok v → Keeps w v
    by_name true e = same_keeps w _ v (record { given = refl; machine = refl }) e
    by_name false e = cc

-- ---- each step walks on over what was given

stopped : (g : Given) (w : Walked) (cause : Cause) → WalksOver g w → WalksOver g (refused cause w)
stopped g w cause o = record { given = o.given; machine = o.machine }

unless_stopped : (g : Given) (w : Walked) (cause : Option Cause) → WalksOver g w → WalksOver g (unless_refused cause w)
unless_stopped g w None o = o
unless_stopped g w (Some cause) o = stopped g w cause o

reset : (g : Given) (w : Walked) (v : World) → Keeps w.world v → WalksOver g w → WalksOver g (with_world w v)
reset g w v k o = record { given = k.given ∙ o.given; machine = k.machine ∙ o.machine }

or_stopped : (g : Given) (w : Walked) (r : Result World Fault) → ((v : World) → r ≡ Ok v → Keeps w.world v) → WalksOver g w → WalksOver g (or_refused r (with_world w) w)
or_stopped g w (Ok v) keeps o = reset g w v (keeps v refl) o
or_stopped g w (Err fault) keeps o = stopped g w _ o

ran : (g : Given) (w : Walked) (rows : List Touches) → WalksOver g w → WalksOver g (with_rows w rows)
ran g w rows o = record {
  given = o.given;
  machine =
      ap (λ (m : Machine). after_rows m rows) o.machine
      ∙ sym (after-append g.former (ended_rows w ++ w.since) rows)
      ∙ ap (after_rows g.former) (append_assoc (ended_rows w) w.since rows);
}

or_ran : (g : Given) (w : Walked) (r : Result (List Touches) Fault) → WalksOver g w → WalksOver g (or_refused r (with_rows w) w)
or_ran g w (Ok rows) o = ran g w rows o
or_ran g w (Err fault) o = stopped g w _ o

abbrev rows_of : Part → List Touches
rows_of p = p.rows

one_part_more : (parts : List Part) (p : Part) → flat_map rows_of (parts ++ p ∷ []) ≡ flat_map rows_of parts ++ p.rows
one_part_more [] p = append-nil p.rows
one_part_more (q ∷ parts) p = ap (λ (rows : List Touches). q.rows ++ rows) (one_part_more parts p) ∙ sym (append_assoc q.rows (flat_map rows_of parts) p.rows)

has_ended : (g : Given) (w : Walked) → WalksOver g w → WalksOver g (ended w)
has_ended g w o = record {
  given = o.given;
  machine = o.machine ∙ ap (after_rows g.former) (sym (append-nil (ended_rows (ended w)) ∙ one_part_more w.parts _));
}

stepped : (g : Given) (action : Name) (w : Walked) (step : Step) → WalksOver g w → WalksOver g (taken action w step)
stepped g action w Plain o = o
stepped g action w Launch o = unless_stopped g w (launch_refusal w.world.given.rows (lookups w.world)) o
stepped g action w Cost o = or_stopped g w (cost w.world) (cost_keeps w.world) o
stepped g action w (Runs effect) o = or_ran g w (phase_rows effect w.world) o
stepped g action w Ends o = has_ended g w o
stepped g action w (SetProperty name text) o = or_stopped g w (set_property action name text w.world) (set_property_keeps action name text w.world) o
stepped g action w (SetDirectory directory text) o = or_stopped g w (set_dir directory text w.world) (set_dir_keeps directory text w.world) o
stepped g action w (Fails text) o = stopped g w _ o

begun : (g : Given) (action : Name) (w : Walked) → WalksOver g w → WalksOver g (begin action w)
begun g action w o = record { given = o.given; machine = o.machine }

has_acted : (g : Given) (action : Name) (w : Walked) → WalksOver g w → WalksOver g (acted action w)
has_acted g action w o = by_step (step_of w.world.given.rows (lookups w.world) w.begun action)
  where
    by_step : (r : Result Step Fault) → WalksOver g (or_refused r (taken action (begin action w)) (begin action w))
    by_step (Ok step) = stepped g action (begin action w) step (begun g action w o)
    by_step (Err fault) = stopped g (begin action w) _ (begun g action w o)

over_row : (g : Given) (w : Walked) (r : InstallExecuteSequenceRow) → WalksOver g w → WalksOver g (walked_row w r)
unfolding walked_row
over_row g w r o = by_test (is_none w.refusal && holds (lookups w.world) r.condition)
  where
    by_test : (b : Bool) → WalksOver g (cond b (acted r.action w) w)
    by_test true = has_acted g r.action w o
    by_test false = o

over_rows : (g : Given) (w : Walked) (rows : List InstallExecuteSequenceRow) → WalksOver g w → WalksOver g (fold walked_row w rows)
over_rows g w [] o = o
over_rows g w (r ∷ rows) o = over_rows g (walked_row w r) rows (over_row g w r o)

over_end : (g : Given) (w : Walked) → WalksOver g w → WalksOver g (at_end w)
over_end g w o = by_test (is_none w.refusal && is_inside w.begun)
  where
    by_test : (b : Bool) → WalksOver g (cond b (refused (Table NoFinalize) w) w)
    by_test true = stopped g w _ o
    by_test false = o

started_over : (g : Given) → WalksOver g (at_start g)
unfolding at_start started
started_over g = record { given = refl; machine = refl }

pub walks_over : (g : Given) → WalksOver g (walk g)
unfolding walk walked_on
walks_over g = over_end g (fold walked_row (at_start g) (sequence g.rows)) (over_rows g (at_start g) (sequence g.rows) (started_over g))

-- ---- the machine at the end of the last segment

left_by_all : (q : Name) (rows : List Touches) (old : Option Entry) → left_by_rows q rows old ≡ left_at q (all_touches rows) old
left_by_all q [] old = refl
left_by_all q (ts ∷ rows) old = left_by_all q rows (left_at q ts old) ∙ sym (left_at-append q ts (all_touches rows) old)

pub touches_are_left : (g : Given) (q : Name) → get (last_machine (walk g)) q ≡ left_at q (all_touches (ended_rows (walk g))) (get g.former q)
unfolding last_machine
touches_are_left g q =
    ap (λ (h : Given). get (after_rows h.former (ended_rows (walk g))) q) (walks_over g).given
    ∙ get-after_rows g.former (ended_rows (walk g)) q
    ∙ left_by_all q (ended_rows (walk g)) (get g.former q)

-- ---- behind a refusal

passed_by : (b : Bool) (x y : Walked) → b ≡ false → cond b x y ≡ y
passed_by true x y e = cc
passed_by false x y e = refl

refused_row : (w : Walked) (cause : Cause) (r : InstallExecuteSequenceRow) → w.refusal ≡ Some cause → walked_row w r ≡ w
unfolding walked_row
refused_row w cause r is = passed_by (is_none w.refusal && holds (lookups w.world) r.condition) _ _ (ap (λ (o : Option Cause). is_none o && holds (lookups w.world) r.condition) is)

refused_rows : (w : Walked) (cause : Cause) (rows : List InstallExecuteSequenceRow) → w.refusal ≡ Some cause → fold walked_row w rows ≡ w
refused_rows w cause [] is = refl
refused_rows w cause (r ∷ rows) is = ap (λ v. fold walked_row v rows) (refused_row w cause r is) ∙ refused_rows w cause rows is

pub refused_on : (w : Walked) (cause : Cause) (rows : List InstallExecuteSequenceRow) → w.refusal ≡ Some cause → walked_on w rows ≡ w
unfolding walked_on
refused_on w cause rows is =
    ap at_end (refused_rows w cause rows is)
    ∙ passed_by (is_none w.refusal && is_inside w.begun) _ _ (ap (λ (o : Option Cause). is_none o && is_inside w.begun) is)

-- ---- row by row

taken_by : (b : Bool) (x y : Walked) → b ≡ true → cond b x y ≡ x
taken_by true x y e = refl
taken_by false x y e = cc

pub false_row : (w : Walked) (r : InstallExecuteSequenceRow) → holds (lookups w.world) r.condition ≡ false → walked_row w r ≡ w
unfolding walked_row
false_row w r isnt = passed_by (is_none w.refusal && holds (lookups w.world) r.condition) _ _ (both (is_none w.refusal) _ isnt)
  where
    both : (a b : Bool) → b ≡ false → (a && b) ≡ false
    both true b e = e
    both false b e = refl

pub true_row : (w : Walked) (r : InstallExecuteSequenceRow) → w.refusal ≡ None → holds (lookups w.world) r.condition ≡ true → walked_row w r ≡ acted r.action w
unfolding walked_row
true_row w r unrefused is = taken_by (is_none w.refusal && holds (lookups w.world) r.condition) _ _ (ap (λ (o : Option Cause). is_none o && holds (lookups w.world) r.condition) unrefused ∙ is)

-- one row more, from a walk so far
pub one_row : (w v : Walked) (r : InstallExecuteSequenceRow) (rest : List InstallExecuteSequenceRow) → walked_row w r ≡ v → walked_on w (r ∷ rest) ≡ walked_on v rest
unfolding walked_on
one_row w v r rest is = ap (λ x. at_end (fold walked_row x rest)) is

pub no_row : (w : Walked) → walked_on w [] ≡ at_end w
unfolding walked_on
no_row w = refl
