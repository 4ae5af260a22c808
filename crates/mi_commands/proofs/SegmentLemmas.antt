-- Which actions are begun at the ends of the segments of a walk.
use Rattle.std.proofs.Common.{◌≡◌, ◌⊎◌, inl, inr, ⊎_elim, ℕ, zero, suc, ◌+◌, ◌-◌, ◌<◌, ◌≤◌, arith, Bool, true, false, cond, List, [], ◌∷◌, ◌++◌, length, map, get_or, Option, None, Some, Result, Ok, Err, refl, sym, ap, subst, ◌∙◌, append_assoc}
use Rattle.std.specs.Prelude.{codes, ◌==◌, ◌&&◌, ◌||◌, fold, is_none, unwrap_or}
use Rattle.std.specs.List.{Contains}
use Rattle.std.proofs.lemmas.List.{length-append}
use Rattle.mi_text.specs.Maps.{Name, same_name, is_among}
use Rattle.mi_text.specs.Lookups.{Lookups}
use Rattle.mi_text.proofs.MapLemmas.{from_same}
use Rattle.mi_source.specs.Paths.{Files}
use Rattle.mi_base.specs.Machine.{Machine}
use Rattle.mi_base.specs.declared.answers.Fault.{Fault}
use Rattle.mi_base.specs.declared.answers.Fault.TheVariants.{NoFinalize, Executable}
use Rattle.mi_base.specs.declared.answers.Cause.{Cause}
use Rattle.mi_base.specs.declared.answers.Cause.TheVariants.{Table}
use Rattle.mi_schema.specs.declared.typed_rows.CustomActionRow.{CustomActionRow}
use Rattle.mi_schema.specs.declared.typed_rows.InstallExecuteSequenceRow.{InstallExecuteSequenceRow}
use Rattle.mi_schema.specs.TableRows.{Rows, Numbered}
use Rattle.mi_model.specs.Texts.{Text}
use Rattle.mi_model.specs.World.{Given, Effect}
use Rattle.mi_model.specs.Asked.{lookups}
use Rattle.mi_model.specs.Conditions.{holds}
use Rattle.mi_model.specs.Refusals.{◌>>=◌, expanded_or_empty}
use Rattle.mi_model.specs.Phases.{effect_of}
use Rattle.mi_model.specs.Properties.{cost, set_dir, set_property}
use Rattle.mi_model.specs.Sequence.{is_costed, is_inside, sequence}
use Rattle.mi_model.specs.Steps.{Step, Plain, Launch, Cost, Runs, Ends, SetProperty, SetDirectory, Fails, without_effect, in_order, base_type, runs_here, stands_right, custom, custom_step, custom_action, phase_or, is_action, ends_segment, step_of}
use Rattle.mi_model.specs.LaunchConditions.{launch_refusal}
use Rattle.mi_model.specs.PhaseRows.{Touches, phase_rows, after_rows}
use Rattle.mi_model.specs.Walk.{Part, Walked, at_start, refused, or_refused, with_world, with_rows, unless_refused, ended, taken, begin, acted, walked_row, at_end, walked_on, walk}
use Rattle.mi_model.specs.Plans.{Planned, ArePlanned}
use Rattle.mi_carry.specs.Reached.{at_end_of, last_reached, AtOne}
use Rattle.mi_commands.specs.Begun.{IsEnd, IsLastEnd}
use Rattle.mi_commands.proofs.ReachLemmas.{Within, one_more, later, walk_reach}

-- ---- ends among begun actions

no_end : (m : ℕ) → IsEnd [] m → ⊥
no_end m e = empty e.before e.action e.later e.is
  where
    empty : (before : List Name) (action : Name) (later : List Name) → [] ≡ before ++ action ∷ later → ⊥
    empty [] action later is = cc
    empty (b ∷ before) action later is = cc

grown : (begun : List Name) (action : Name) (m : ℕ) → IsEnd begun m → IsEnd (begun ++ action ∷ []) m
grown begun action m e = record {
  before = e.before;
  action = e.action;
  later = e.later ++ action ∷ [];
  is = ap (λ (l : List Name). l ++ action ∷ []) e.is ∙ append_assoc e.before (e.action ∷ e.later) (action ∷ []);
  inside = e.inside;
  ends = e.ends;
  counts = e.counts;
}

-- one more action: an end was one before, or is behind it
module _ (action : Name) where
  abbrev Split : List Name → List Name → Name → List Name → Type 0
  Split begun before x later = ((before ≡ begun) × (x ≡ action)) ⊎ ((rest : List Name) × (begun ≡ before ++ x ∷ rest))

  split_more : (y : Name) (begun before : List Name) (x : Name) (later : List Name) → Split begun before x later → Split (y ∷ begun) (y ∷ before) x later
  split_more y begun before x later = ⊎_elim (λ last. inl (ap (λ (l : List Name). y ∷ l) last.0, last.1)) (λ old. inr (old.0, ap (λ (l : List Name). y ∷ l) old.1))

  split : (begun before : List Name) (x : Name) (later : List Name) → begun ++ action ∷ [] ≡ before ++ x ∷ later → Split begun before x later
  split [] [] x later is = let same : action ≡ x = cc in inl (refl, sym same)
  split [] (b ∷ []) x later is = absurd cc
  split [] (b ∷ (c ∷ before)) x later is = absurd cc
  split (y ∷ begun) [] x later is = let same : y ≡ x = cc in inr (begun, ap (λ (z : Name). z ∷ begun) same)
  split (y ∷ begun) (b ∷ before) x later is =
      let same : y ≡ b = cc in
      let rest : begun ++ action ∷ [] ≡ before ++ x ∷ later = cc in
      subst (λ (z : Name). Split (y ∷ begun) (z ∷ before) x later) same (split_more y begun before x later (split begun before x later rest))

abbrev IsNew : List Name → Name → ℕ → Type 0
IsNew begun action m = (m ≡ length begun + 1) × (is_inside begun ≡ true) × (ends_segment action ≡ true)

was_or_new : (begun : List Name) (action : Name) (m : ℕ) → IsEnd (begun ++ action ∷ []) m → IsEnd begun m ⊎ IsNew begun action m
was_or_new begun action m e = ⊎_elim
    (λ last. inr (
      e.counts ∙ ap (λ (l : List Name). length l + 1) last.0,
      sym (ap is_inside last.0) ∙ e.inside,
      sym (ap ends_segment last.1) ∙ e.ends,
    ))
    (λ old. inl (record { before = e.before; action = e.action; later = old.0; is = old.1; inside = e.inside; ends = e.ends; counts = e.counts }))
    (split action begun e.before e.action e.later e.is)

here : (begun : List Name) (action : Name) → is_inside begun ≡ true → ends_segment action ≡ true → IsEnd (begun ++ action ∷ []) (length (begun ++ action ∷ []))
here begun action inside ends = record { before = begun; action = action; later = []; is = refl; inside = inside; ends = ends; counts = length-append begun (action ∷ []) }

-- ---- parts, and where they end

-- each ends a segment of these actions
abbrev pub AreEnds : List Name → List Part → Type 0
AreEnds begun [] = Unit {0}
AreEnds begun (p ∷ parts) = IsEnd begun p.reached × AreEnds begun parts

-- one of them ends behind so many actions
abbrev pub HasEnd : ℕ → List Part → Type 0
HasEnd m [] = ⊥
HasEnd m (p ∷ parts) = (m ≡ p.reached) ⊎ HasEnd m parts

-- none ends before so many
abbrev Beyond : ℕ → List Part → Type 0
Beyond n [] = Unit {0}
Beyond n (p ∷ parts) = (n ≤ p.reached) × Beyond n parts

abbrev Rising : List Part → Type 0
Rising [] = Unit {0}
Rising (p ∷ parts) = Beyond p.reached parts × Rising parts

ends_grown : (begun : List Name) (action : Name) (parts : List Part) → AreEnds begun parts → AreEnds (begun ++ action ∷ []) parts
ends_grown begun action [] are = tt
ends_grown begun action (p ∷ parts) are = (grown begun action p.reached are.0, ends_grown begun action parts are.1)

ends_more : (begun : List Name) (parts : List Part) (q : Part) → AreEnds begun parts → IsEnd begun q.reached → AreEnds begun (parts ++ q ∷ [])
ends_more begun [] q are is = (is, tt)
ends_more begun (p ∷ parts) q are is = (are.0, ends_more begun parts q are.1 is)

has_old : (m : ℕ) (parts : List Part) (q : Part) → HasEnd m parts → HasEnd m (parts ++ q ∷ [])
has_old m [] q has = absurd has
has_old m (p ∷ parts) q has = ⊎_elim (λ is. inl is) (λ rest. inr (has_old m parts q rest)) has

has_new : (m : ℕ) (parts : List Part) (q : Part) → m ≡ q.reached → HasEnd m (parts ++ q ∷ [])
has_new m [] q is = inl is
has_new m (p ∷ parts) q is = inr (has_new m parts q is)

beyond_more : (n : ℕ) (parts : List Part) (q : Part) → Beyond n parts → n ≤ q.reached → Beyond n (parts ++ q ∷ [])
beyond_more n [] q beyond le = (le, tt)
beyond_more n (p ∷ parts) q beyond le = (beyond.0, beyond_more n parts q beyond.1 le)

rising_more : (n : ℕ) (parts : List Part) (q : Part) → Rising parts → Within n parts → n ≤ q.reached → Rising (parts ++ q ∷ [])
rising_more n [] q rising within le = (tt, tt)
rising_more n (p ∷ parts) q rising within le = (
  beyond_more p.reached parts q rising.0 (let small = within.0 in omega (arith, small, le)),
  rising_more n parts q rising.1 within.1 le,
)

-- ---- a walk so far: its parts end where its begun actions do

pub record Good (begun : List Name) (parts : List Part) : Type 0 where
  pub sound : AreEnds begun parts
  pub complete : (m : ℕ) → IsEnd begun m → HasEnd m parts
  pub rising : Rising parts
  pub within : Within (length begun) parts

abbrev GoodWalk : Walked → Type 0
GoodWalk w = Good w.begun w.parts

-- an action that ends a segment
good_ended : (rows : List Touches) (begun : List Name) (parts : List Part) (action : Name) → Good begun parts → is_inside begun ≡ true → ends_segment action ≡ true
    → Good (begun ++ action ∷ []) (parts ++ record { rows = rows; reached = length (begun ++ action ∷ []) } ∷ [])
good_ended rows begun parts action good inside ends =
    let q : Part = record { rows = rows; reached = length (begun ++ action ∷ []) } in
    let more = length-append begun (action ∷ []) in
    let wider : Within (length (begun ++ action ∷ [])) parts = later (length begun) (length (begun ++ action ∷ [])) parts (omega (arith, more)) good.within in
    record {
      sound = ends_more (begun ++ action ∷ []) parts q (ends_grown begun action parts good.sound) (here begun action inside ends);
      complete = λ m e. ⊎_elim (λ old. has_old m parts q (good.complete m old)) (λ new. has_new m parts q (new.0 ∙ sym more)) (was_or_new begun action m e);
      rising = rising_more (length (begun ++ action ∷ [])) parts q good.rising wider (omega arith);
      within = one_more (length (begun ++ action ∷ [])) parts q (omega arith) wider;
    }

-- one that doesn't
good_begun : (begun : List Name) (parts : List Part) (action : Name) → Good begun parts → (is_inside begun ≡ true → ends_segment action ≡ true → ⊥) → Good (begun ++ action ∷ []) parts
good_begun begun parts action good isnt =
    let more = length-append begun (action ∷ []) in
    record {
      sound = ends_grown begun action parts good.sound;
      complete = λ m e. ⊎_elim (λ old. good.complete m old) (λ new. absurd (isnt new.1 new.2)) (was_or_new begun action m e);
      rising = good.rising;
      within = later (length begun) (length (begun ++ action ∷ [])) parts (omega (arith, more)) good.within;
    }

-- ---- which step an action is

-- P holds if the step ends a segment
abbrev EndsOnly : Type 0 → Result Step Fault → Type 0
EndsOnly P (Ok Ends) = P
EndsOnly P (Ok Plain) = Unit {0}
EndsOnly P (Ok Launch) = Unit {0}
EndsOnly P (Ok Cost) = Unit {0}
EndsOnly P (Ok (Runs effect)) = Unit {0}
EndsOnly P (Ok (SetProperty name text)) = Unit {0}
EndsOnly P (Ok (SetDirectory directory text)) = Unit {0}
EndsOnly P (Ok (Fails text)) = Unit {0}
EndsOnly P (Err fault) = Unit {0}

module _ (P : Type 0) where
  either : (b : Bool) (x y : Result Step Fault) → (b ≡ true → EndsOnly P x) → EndsOnly P y → EndsOnly P (cond b x y)
  either true x y first second = first refl
  either false x y first second = second

  bound : {A : Type 0} (r : Result A Fault) (f : A → Result Step Fault) → ((x : A) → EndsOnly P (f x)) → EndsOnly P (r >>= f)
  bound (Ok x) f all = all x
  bound (Err fault) f all = tt

  custom_ends : (r : CustomActionRow) (text : Text) → EndsOnly P (Ok (custom r text))
  custom_ends r text = by (base_type r == 19) (base_type r == 35)
    where
      by : (a b : Bool) → EndsOnly P (Ok (cond a (Fails text) (cond b (SetDirectory (unwrap_or r.source []) text) (SetProperty (unwrap_or r.source []) text))))
      by true b = tt
      by false true = tt
      by false false = tt

  custom_step_ends : (L : Lookups) (begun : List Name) (action : Name) (o : Option (Numbered CustomActionRow)) → EndsOnly P (custom_step L begun action o)
  custom_step_ends L begun action None = tt
  custom_step_ends L begun action (Some n) =
      either (runs_here n.row) _ (Err (Executable action))
      (λ runs. bound (in_order action (stands_right n.row begun) n.row) _ (λ r. bound (expanded_or_empty L (codes "CustomAction") n.number r.target) _ (λ text. custom_ends r text)))
      tt

  phase_ends : (rows : Rows) (L : Lookups) (begun : List Name) (action : Name) (o : Option Effect) → EndsOnly P (phase_or rows L begun action o)
  phase_ends rows L begun action (Some effect) = by (is_inside begun)
    where
      by : (b : Bool) → EndsOnly P (in_order action b (Runs effect))
      by true = tt
      by false = tt
  phase_ends rows L begun action None = either (is_among action without_effect) (Ok Plain) (custom_step L begun action (custom_action rows action)) (λ plain. tt) (custom_step_ends L begun action (custom_action rows action))

  plain_ends : (action : Name) (b : Bool) → EndsOnly P (in_order action b Plain)
  plain_ends action true = tt
  plain_ends action false = tt

  step_ends : (rows : Rows) (L : Lookups) (begun : List Name) (action : Name) → (is_inside begun ≡ true → ends_segment action ≡ true → P) → EndsOnly P (step_of rows L begun action)
  unfolding step_of
  step_ends rows L begun action then =
      either (is_action action (codes "LaunchConditions")) (Ok Launch) _ (λ is. tt)
      (either (is_action action (codes "CostFinalize")) (Ok Cost) _ (λ is. tt)
      (either (is_action action (codes "InstallInitialize")) (in_order action (is_costed begun) Plain) _ (λ is. plain_ends action (is_costed begun))
      (either (ends_segment action) (in_order action (is_inside begun) Ends) (phase_or rows L begun action (effect_of action)) (λ ends. ordered (is_inside begun) (λ inside. then inside ends))
      (phase_ends rows L begun action (effect_of action)))))
    where
      ordered : (b : Bool) → (b ≡ true → P) → EndsOnly P (in_order action b Ends)
      ordered true all = all refl
      ordered false all = tt

module _ (rows : Rows) (L : Lookups) (begun : List Name) (inside : is_inside begun ≡ true) where
  execute_step : step_of rows L begun (codes "InstallExecute") ≡ Ok Ends
  unfolding step_of
  execute_step = ap (λ (b : Bool). in_order (codes "InstallExecute") b Ends) inside

  again_step : step_of rows L begun (codes "InstallExecuteAgain") ≡ Ok Ends
  unfolding step_of
  again_step = ap (λ (b : Bool). in_order (codes "InstallExecuteAgain") b Ends) inside

  finalize_step : step_of rows L begun (codes "InstallFinalize") ≡ Ok Ends
  unfolding step_of
  finalize_step = ap (λ (b : Bool). in_order (codes "InstallFinalize") b Ends) inside

  as_named : (action name : Name) → same_name action name ≡ true → step_of rows L begun name ≡ Ok Ends → step_of rows L begun action ≡ Ok Ends
  as_named action name same is = ap (step_of rows L begun) (from_same action name same) ∙ is

  end_step : (action : Name) → ends_segment action ≡ true → step_of rows L begun action ≡ Ok Ends
  end_step action is = by (same_name action (codes "InstallExecute")) (same_name action (codes "InstallExecuteAgain")) (same_name action (codes "InstallFinalize")) refl refl refl is
    where
      by : (a b c : Bool) → same_name action (codes "InstallExecute") ≡ a → same_name action (codes "InstallExecuteAgain") ≡ b → same_name action (codes "InstallFinalize") ≡ c → (a || b || c) ≡ true → step_of rows L begun action ≡ Ok Ends
      by true b c ea eb ec e = as_named action (codes "InstallExecute") ea execute_step
      by false true c ea eb ec e = as_named action (codes "InstallExecuteAgain") eb again_step
      by false false true ea eb ec e = as_named action (codes "InstallFinalize") ec finalize_step
      by false false false ea eb ec e = absurd cc

-- ---- one action of the walk

or_good : {A : Type 0} (r : Result A Fault) (next : A → Walked) (w : Walked) → ((x : A) → GoodWalk (next x)) → GoodWalk w → GoodWalk (or_refused r next w)
or_good (Ok x) next w goes stays = goes x
or_good (Err fault) next w goes stays = stays

unless_good : (cause : Option Cause) (w : Walked) → GoodWalk w → GoodWalk (unless_refused cause w)
unless_good None w good = good
unless_good (Some cause) w good = good

step_good : (action : Name) (w : Walked) (step : Step) → GoodWalk w → EndsOnly ⊥ (Ok step) → GoodWalk (taken action w step)
step_good action w Plain good isnt = good
step_good action w Launch good isnt = unless_good (launch_refusal w.world.given.rows (lookups w.world)) w good
step_good action w Cost good isnt = or_good (cost w.world) (with_world w) w (λ x. good) good
step_good action w (Runs effect) good isnt = or_good (phase_rows effect w.world) (with_rows w) w (λ x. good) good
step_good action w Ends good isnt = absurd isnt
step_good action w (SetProperty name text) good isnt = or_good (set_property action name text w.world) (with_world w) w (λ x. good) good
step_good action w (SetDirectory directory text) good isnt = or_good (set_dir directory text w.world) (with_world w) w (λ x. good) good
step_good action w (Fails text) good isnt = good

other_good : (action : Name) (w : Walked) (r : Result Step Fault) → EndsOnly ⊥ r → GoodWalk w → GoodWalk (or_refused r (taken action w) w)
other_good action w (Ok step) isnt good = step_good action w step good isnt
other_good action w (Err fault) isnt good = good

act_good : (action : Name) (w : Walked) → GoodWalk w → GoodWalk (acted action w)
act_good action w good = by (is_inside w.begun) (ends_segment action) refl refl
  where
    step : Result Step Fault
    step = step_of w.world.given.rows (lookups w.world) w.begun action

    other : (is_inside w.begun ≡ true → ends_segment action ≡ true → ⊥) → GoodWalk (acted action w)
    other isnt = other_good action (begin action w) step (step_ends ⊥ w.world.given.rows (lookups w.world) w.begun action isnt) (good_begun w.begun w.parts action good isnt)

    by : (a b : Bool) → is_inside w.begun ≡ a → ends_segment action ≡ b → GoodWalk (acted action w)
    by true true inside ends =
        subst (λ (r : Result Step Fault). GoodWalk (or_refused r (taken action (begin action w)) (begin action w))) (sym (end_step w.world.given.rows (lookups w.world) w.begun inside action ends))
        (good_ended w.since w.begun w.parts action good inside ends)
    by true false inside ends = other (λ i e. let clash : false ≡ true = sym ends ∙ e in absurd cc)
    by false b inside ends = other (λ i e. let clash : false ≡ true = sym inside ∙ i in absurd cc)

-- ---- the whole walk

row_good : (w : Walked) (r : InstallExecuteSequenceRow) → GoodWalk w → GoodWalk (walked_row w r)
unfolding walked_row
row_good w r good = by_test (is_none w.refusal && holds (lookups w.world) r.condition)
  where
    by_test : (b : Bool) → GoodWalk (cond b (acted r.action w) w)
    by_test true = act_good r.action w good
    by_test false = good

rows_good : (w : Walked) (rows : List InstallExecuteSequenceRow) → GoodWalk w → GoodWalk (fold walked_row w rows)
rows_good w [] good = good
rows_good w (r ∷ rows) good = rows_good (walked_row w r) rows (row_good w r good)

end_good : (w : Walked) → GoodWalk w → GoodWalk (at_end w)
end_good w good = by_test (is_none w.refusal && is_inside w.begun)
  where
    by_test : (b : Bool) → GoodWalk (cond b (refused (Table NoFinalize) w) w)
    by_test true = good
    by_test false = good

start_good : (g : Given) → GoodWalk (at_start g)
unfolding at_start
start_good g = record { sound = tt; complete = λ m e. absurd (no_end m e); rising = tt; within = tt }

pub walk_good : (g : Given) → Good (walk g).begun (walk g).parts
unfolding walk walked_on
walk_good g = end_good (fold walked_row (at_start g) (sequence g.rows)) (rows_good (at_start g) (sequence g.rows) (start_good g))

-- ---- what is planned of it

planned_end : (files : Files) (begun : List Name) (m : Machine) (parts : List Part) (plans : List Planned) (k n : ℕ) → ArePlanned files m parts plans → AreEnds begun parts → k < length (map (λ (p : Planned). p.reached) plans) → get_or (map (λ (p : Planned). p.reached) plans) k n ≡ n → IsEnd begun n
planned_end files begun m [] [] k n are ends below is = absurd (omega (arith, below))
planned_end files begun m [] (x ∷ plans) k n are ends below is = absurd are
planned_end files begun m (p ∷ parts) [] k n are ends below is = absurd are
planned_end files begun m (p ∷ parts) (x ∷ plans) zero n are ends below is = subst (IsEnd begun) (sym are.0.reached ∙ is) ends.0
planned_end files begun m (p ∷ parts) (x ∷ plans) (suc k) n are ends below is = planned_end files begun (after_rows m p.rows) parts plans k n are.1 ends.1 (omega (arith, below)) is

-- the actions that are begun at the end of a planned segment
pub at_one_end : (files : Files) (begun : List Name) (m : Machine) (parts : List Part) (plans : List Planned) (n : ℕ) → ArePlanned files m parts plans → Good begun parts → AtOne plans n → IsEnd begun n
at_one_end files begun m parts plans n are good at = planned_end files begun m parts plans at.0 n are good.sound at.1 at.2

-- the last of a first and the rest
abbrev last_of : Part → List Part → Part
last_of p [] = p
last_of p (q ∷ parts) = last_of q parts

last_planned : (files : Files) (begun : ℕ) (m : Machine) (p : Part) (parts : List Part) (x : Planned) (plans : List Planned) → ArePlanned files m (p ∷ parts) (x ∷ plans) → at_end_of begun (x ∷ plans) (length plans) ≡ (last_of p parts).reached
last_planned files begun m p [] x [] are = are.0.reached
last_planned files begun m p [] x (y ∷ plans) are = absurd are.1
last_planned files begun m p (q ∷ parts) x [] are = absurd are.1
last_planned files begun m p (q ∷ parts) x (y ∷ plans) are = last_planned files begun (after_rows m p.rows) q parts y plans are.1

last_end : (begun : List Name) (p : Part) (parts : List Part) → AreEnds begun (p ∷ parts) → IsEnd begun (last_of p parts).reached
last_end begun p [] ends = ends.0
last_end begun p (q ∷ parts) ends = last_end begun q parts ends.1

first_least : (p : Part) (parts : List Part) → Rising (p ∷ parts) → p.reached ≤ (last_of p parts).reached
first_least p [] rising = omega arith
first_least p (q ∷ parts) rising = let rest = first_least q parts rising.1 in let le = rising.0.0 in omega (arith, rest, le)

last_most : (p : Part) (parts : List Part) (m : ℕ) → Rising (p ∷ parts) → HasEnd m (p ∷ parts) → m ≤ (last_of p parts).reached
last_most p parts m rising (inl is) = let le = first_least p parts rising in omega (arith, is, le)
last_most p [] m rising (inr has) = absurd has
last_most p (q ∷ parts) m rising (inr has) = last_most q parts m rising.1 has

-- those at the end of the last planned one
pub at_last_end : (files : Files) (begun : List Name) (count : ℕ) (m : Machine) (parts : List Part) (plans : List Planned) → ArePlanned files m parts plans → Good begun parts → (plans ≡ [] → ⊥) → IsLastEnd begun (last_reached count plans)
at_last_end files begun count m [] [] are good some = absurd (some refl)
at_last_end files begun count m [] (x ∷ plans) are good some = absurd are
at_last_end files begun count m (p ∷ parts) [] are good some = absurd are
at_last_end files begun count m (p ∷ parts) (x ∷ plans) are good some =
    let place : length (x ∷ plans) - 1 ≡ length plans = omega arith in
    let is : last_reached count (x ∷ plans) ≡ (last_of p parts).reached = ap (at_end_of count (x ∷ plans)) place ∙ last_planned files count m p parts x plans are in
    subst (IsLastEnd begun) (sym is) (record { is = last_end begun p parts good.sound; last = λ n e. last_most p parts n good.rising (good.complete n e) })

-- no more than all
pub end_most : (begun : List Name) (n : ℕ) → IsEnd begun n → n ≤ length begun
end_most begun n e = let whole = ap (λ (l : List Name). length l) e.is ∙ length-append e.before (e.action ∷ e.later) in let counts = e.counts in omega (arith, whole, counts)
