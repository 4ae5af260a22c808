-- What a step of the sequence is: whether it is a phase, the end of a segment, or leads inside.
use Rattle.std.proofs.Common.{◌≡◌, Bool, true, false, cond, ◌||◌, List, [], ◌∷◌, Option, Some, None, Result, Ok, Err, refl, sym, ap, subst, ◌∙◌}
use Rattle.std.specs.Prelude.{◌==◌, codes, find, option_map, unwrap_or}
use Rattle.std.specs.List.{AllByRecursion}
use Rattle.mi_text.specs.Maps.{Name, same_name, is_among}
use Rattle.mi_text.proofs.MapLemmas.{from_same, same_itself}
use Rattle.mi_text.specs.Lookups.{Lookups}
use Rattle.mi_base.specs.declared.answers.Fault.{Fault}
use Rattle.mi_base.specs.declared.answers.Fault.TheVariants.{Executable}
use Rattle.mi_schema.specs.TableRows.{Rows, Numbered}
use Rattle.mi_schema.specs.declared.typed_rows.CustomActionRow.{CustomActionRow}
use Rattle.mi_model.specs.World.{Effect}
use Rattle.mi_model.specs.Sequence.{is_costed, is_inside}
use Rattle.mi_model.specs.States.{named}
use Rattle.mi_model.specs.Steps.{Step, Plain, Launch, Cost, Runs, Ends, SetProperty, SetDirectory, Fails, step_of, in_order, custom, custom_step, custom_action, base_type, runs_here, stands_right, without_effect, phase_or, ends_segment}
use Rattle.mi_model.specs.Phases.{phases, effect_of}
use Rattle.mi_model.specs.Refusals.{◌>>=◌, expanded_or_empty}
use Rattle.mi_model.specs.Texts.{Text}
use Rattle.mi_model_laws.proofs.RowLemmas.{from_ok, bound}

abbrev final : Name
final = codes "InstallFinalize"

abbrev pub IsNotEnd : Name → Type 0
IsNotEnd action = same_name final action ≡ false

not_true : (b : Bool) → (b ≡ true → ⊥) → b ≡ false
not_true true isnt = absurd (isnt refl)
not_true false isnt = refl

false_true : {X : Type 0} (b : Bool) → b ≡ false → b ≡ true → X
false_true b isnt is = let both = sym isnt ∙ is in cc

-- an action of this name isn't the end if the name isn't
other_name : (action name : Name) → same_name action name ≡ true → IsNotEnd name → IsNotEnd action
other_name action name is isnt = subst IsNotEnd (sym (from_same action name is)) isnt

unlike : (action name : Name) → same_name action name ≡ false → same_name name action ≡ false
unlike action name isnt = not_true (same_name name action) (λ yes. false_true (same_name action name) isnt (ap (λ n. same_name n name) (sym (from_same name action yes)) ∙ same_itself name))

abbrev pub IsNoCost : Name → Type 0
IsNoCost action = same_name (codes "CostFinalize") action ≡ false

-- an action that isn't the end, and opens the inside only after CostFinalize
pub record IsOuter (begun : List Name) (action : Name) : Type 0 where
  pub isnt : IsNotEnd action
  pub opens : same_name (codes "InstallInitialize") action ≡ true → is_costed begun ≡ true
  pub no_phase : effect_of action ≡ None

-- the actions by name that are no phases
no_launch : effect_of (codes "LaunchConditions") ≡ None
unfolding effect_of phases
no_launch = refl

no_costing : effect_of (codes "CostFinalize") ≡ None
unfolding effect_of phases
no_costing = refl

no_initialize : effect_of (codes "InstallInitialize") ≡ None
unfolding effect_of phases
no_initialize = refl

no_execute : effect_of (codes "InstallExecute") ≡ None
unfolding effect_of phases
no_execute = refl

no_again : effect_of (codes "InstallExecuteAgain") ≡ None
unfolding effect_of phases
no_again = refl

no_finalize : effect_of (codes "InstallFinalize") ≡ None
unfolding effect_of phases
no_finalize = refl

no_phase_at : (action name : Name) → same_name action name ≡ true → effect_of name ≡ None → effect_of action ≡ None
no_phase_at action name same none = subst (λ n. effect_of n ≡ None) (sym (from_same action name same)) none

ending : (action : Name) (a b c : Bool) → same_name action (codes "InstallExecute") ≡ a → same_name action (codes "InstallExecuteAgain") ≡ b → same_name action final ≡ c → (a || b || c) ≡ true → effect_of action ≡ None
ending action true b c ea eb ec is = no_phase_at action (codes "InstallExecute") ea no_execute
ending action false true c ea eb ec is = no_phase_at action (codes "InstallExecuteAgain") eb no_again
ending action false false true ea eb ec is = no_phase_at action final ec no_finalize
ending action false false false ea eb ec is = cc

pub ends_no_phase : (action : Name) → ends_segment action ≡ true → effect_of action ≡ None
ends_no_phase action is = ending action _ _ _ refl refl refl is

abbrev pub IsPlain : List Name → Name → Type 0
IsPlain begun action = IsOuter begun action × IsNoCost action

first_or : (P : Effect → Type 0) (action : Name) (effect : Effect) (p : Name × Effect) (rest : Option (Name × Effect)) (b : Bool) → P p.1 → (option_map (λ (p : Name × Effect). p.1) rest ≡ Some effect → P effect)
    → option_map (λ (p : Name × Effect). p.1) (cond b (Some p) rest) ≡ Some effect → P effect
first_or P action effect p rest true here later is = let same : p.1 ≡ effect = cc in subst P same here
first_or P action effect p rest false here later is = later is

named_of : (P : Effect → Type 0) (action : Name) (effect : Effect) (pairs : List (Name × Effect)) → AllByRecursion (λ (p : Name × Effect). P p.1) pairs → named action pairs ≡ Some effect → P effect
named_of P action effect [] all is = cc
named_of P action effect (p ∷ pairs) all is = first_or P action effect p (find (λ p. same_name action p.0) pairs) (same_name action p.0) all.0 (named_of P action effect pairs all.1) is

-- what all phases have an action has that is one
pub phase_of : (P : Effect → Type 0) → AllByRecursion (λ (p : Name × Effect). P p.1) phases → (action : Name) (effect : Effect) → effect_of action ≡ Some effect → P effect
unfolding effect_of
phase_of P all action effect is = named_of P action effect phases all is

phase_names : AllByRecursion (λ (p : Name × Effect). IsNotEnd p.0) phases
unfolding phases
phase_names = (refl, (refl, (refl, (refl, (refl, (refl, (refl, (refl, (refl, (refl, (refl, (refl, (refl, (refl, tt))))))))))))))

name_or : (P : Name → Effect → Type 0) (action : Name) (effect : Effect) (p : Name × Effect) (rest : Option (Name × Effect)) (b : Bool) → same_name action p.0 ≡ b → P p.0 p.1 → (option_map (λ (p : Name × Effect). p.1) rest ≡ Some effect → P action effect)
    → option_map (λ (p : Name × Effect). p.1) (cond b (Some p) rest) ≡ Some effect → P action effect
name_or P action effect p rest true same here later is = let one : p.1 ≡ effect = cc in subst (λ n. P n effect) (sym (from_same action p.0 same)) (subst (P p.0) one here)
name_or P action effect p rest false same here later is = later is

named_in : (P : Name → Effect → Type 0) (action : Name) (effect : Effect) (pairs : List (Name × Effect)) → AllByRecursion (λ (p : Name × Effect). P p.0 p.1) pairs → named action pairs ≡ Some effect → P action effect
named_in P action effect [] all is = cc
named_in P action effect (p ∷ pairs) all is = name_or P action effect p (find (λ p. same_name action p.0) pairs) (same_name action p.0) refl all.0 (named_in P action effect pairs all.1) is

-- what all phases have by their names an action has that is one
pub phase_named : (P : Name → Effect → Type 0) → AllByRecursion (λ (p : Name × Effect). P p.0 p.1) phases → (action : Name) (effect : Effect) → effect_of action ≡ Some effect → P action effect
unfolding effect_of
phase_named P all action effect is = named_in P action effect phases all is

pub phase_is_no_end : (action : Name) (effect : Effect) → effect_of action ≡ Some effect → IsNotEnd action
phase_is_no_end action effect is = phase_named (λ n e. IsNotEnd n) phase_names action effect is

module _ (begun : List Name) (action : Name) where
  abbrev pub StepIs : Step → Type 0
  StepIs Plain = IsPlain begun action
  StepIs Launch = IsPlain begun action
  StepIs Cost = IsOuter begun action × (same_name action (codes "CostFinalize") ≡ true)
  StepIs (Runs effect) = (effect_of action ≡ Some effect) × (is_inside begun ≡ true)
  StepIs Ends = (is_inside begun ≡ true) × IsNoCost action × (effect_of action ≡ None)
  StepIs (SetProperty name text) = IsPlain begun action
  StepIs (SetDirectory directory text) = IsPlain begun action
  StepIs (Fails text) = Unit {0}

  ordered : (b : Bool) (s step : Step) → in_order action b s ≡ Ok step → (b ≡ true → StepIs s) → StepIs step
  ordered true s step is so = subst StepIs (from_ok s step is) (so refl)
  ordered false s step is so = cc

  custom_is : (r : CustomActionRow) (text : Text) → IsPlain begun action → StepIs (custom r text)
  custom_is r text isnt = by (base_type r == 19) (base_type r == 35)
    where
      by : (a b : Bool) → StepIs (cond a (Fails text) (cond b (SetDirectory (unwrap_or r.source []) text) (SetProperty (unwrap_or r.source []) text)))
      by true b = tt
      by false true = isnt
      by false false = isnt

  customs : (L : Lookups) (o : Option (Numbered CustomActionRow)) (step : Step) → custom_step L begun action o ≡ Ok step → IsPlain begun action → StepIs step
  customs L None step is isnt = cc
  customs L (Some n) step is isnt = by (runs_here n.row) is
    where
      rest : CustomActionRow → Result Step Fault
      rest r = expanded_or_empty L (codes "CustomAction") n.number r.target >>= λ text. Ok (custom r text)

      by : (b : Bool) → cond b (in_order action (stands_right n.row begun) n.row >>= rest) (Err (Executable action)) ≡ Ok step → StepIs step
      by false is = cc
      by true is =
          let first = bound (in_order action (stands_right n.row begun) n.row) rest step is in
          let text = bound (expanded_or_empty L (codes "CustomAction") n.number first.value.target) (λ text. Ok (custom first.value text)) step first.rest in
          subst StepIs (from_ok (custom first.value text.value) step text.rest) (custom_is first.value text.value isnt)

  phase_is : (rows : Rows) (L : Lookups) (o : Option Effect) (step : Step) → effect_of action ≡ o → phase_or rows L begun action o ≡ Ok step → (effect_of action ≡ None → IsPlain begun action) → StepIs step
  phase_is rows L (Some effect) step same is isnt = ordered (is_inside begun) (Runs effect) step is (λ inside. (same, inside))
  phase_is rows L None step same is isnt = by (is_among action without_effect) is
    where
      by : (b : Bool) → cond b (Ok Plain) (custom_step L begun action (custom_action rows action)) ≡ Ok step → StepIs step
      by true is = subst StepIs (from_ok Plain step is) (isnt same)
      by false is = customs L (custom_action rows action) step is (isnt same)

  pub step_is : (rows : Rows) (L : Lookups) (step : Step) → step_of rows L begun action ≡ Ok step → StepIs step
  unfolding step_of
  step_is rows L step is = by (same_name action (codes "LaunchConditions")) refl (same_name action (codes "CostFinalize")) refl (same_name action (codes "InstallInitialize")) refl (ends_segment action) refl is
    where
      at : (name : Name) → same_name action name ≡ true → IsNotEnd name → same_name (codes "InstallInitialize") name ≡ false → effect_of name ≡ None → IsOuter begun action
      at name same isnt other none = subst (IsOuter begun) (sym (from_same action name same)) (record { isnt = isnt; opens = λ opens. false_true _ other opens; no_phase = none })

      no_cost : (name : Name) → same_name action name ≡ true → IsNoCost name → IsNoCost action
      no_cost name same isnt = subst IsNoCost (sym (from_same action name same)) isnt

      third : (a b : Bool) → ((a || b) ≡ false) → b ≡ false
      third true b e = cc
      third false b e = e

      by : (a : Bool) → same_name action (codes "LaunchConditions") ≡ a → (b : Bool) → same_name action (codes "CostFinalize") ≡ b → (c : Bool) → same_name action (codes "InstallInitialize") ≡ c → (d : Bool) → ends_segment action ≡ d
          → cond a (Ok Launch) (cond b (Ok Cost) (cond c (in_order action (is_costed begun) Plain) (cond d (in_order action (is_inside begun) Ends) (phase_or rows L begun action (effect_of action))))) ≡ Ok step → StepIs step
      by true ea b eb c ec d ed is = subst StepIs (from_ok Launch step is) (at (codes "LaunchConditions") ea refl refl no_launch, no_cost (codes "LaunchConditions") ea refl)
      by false ea true eb c ec d ed is = subst StepIs (from_ok Cost step is) (at (codes "CostFinalize") eb refl refl no_costing, eb)
      by false ea false eb true ec d ed is =
          ordered (is_costed begun) Plain step is (λ costed. (record { isnt = other_name action (codes "InstallInitialize") ec refl; opens = λ opens. costed; no_phase = no_phase_at action (codes "InstallInitialize") ec no_initialize }, unlike action (codes "CostFinalize") eb))
      by false ea false eb false ec true ed is = ordered (is_inside begun) Ends step is (λ inside. (inside, unlike action (codes "CostFinalize") eb, ends_no_phase action ed))
      by false ea false eb false ec false ed is =
          phase_is rows L (effect_of action) step refl is
          (λ none. (record { isnt = unlike action final (third _ _ ed); opens = λ opens. false_true _ (unlike action (codes "InstallInitialize") ec) opens; no_phase = none }, unlike action (codes "CostFinalize") eb))
