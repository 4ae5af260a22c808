-- The table of standard actions is what the steps of the model make of their names.
use Rattle.std.proofs.Common.{◌≡◌, Bool, true, false, cond, List, [], ◌∷◌, ◌++◌, map, Option, Some, None, refl, sym, ap, ◌∙◌, subst, ◌||◌, ◌+◌, ◌<◌, ℕ, suc, length, drop, get_or, add-one, drop-cons}
use Rattle.std.specs.Prelude.{codes, find, option_map, Result, Ok, IfSome, if◌then◌else◌}
use Rattle.std.specs.Str.{bytes_eq}
use Rattle.std.proofs.lemmas.Map.Text.{is_eq-slice_cmp}
use Rattle.mi_text.specs.Maps.{Name, same_name, is_among}
use Rattle.mi_text.specs.Lookups.{Lookups}
use Rattle.mi_text.proofs.MapLemmas.{from_same}
use Rattle.mi_base.specs.declared.answers.Fault.{Fault}
use Rattle.mi_schema.specs.TableRows.{Rows}
use Rattle.mi_model.specs.World.{Effect}
use Rattle.mi_model.specs.States.{named}
use Rattle.mi_model.specs.Phases.{phases, effect_of}
use Rattle.mi_model.specs.Sequence.{is_inside}
use Rattle.mi_model.specs.Steps as model
use Rattle.mi_model.specs.Steps.{without_effect, in_order, phase_or, custom_step, custom_action, step_of}
use Rattle.mi_seq.specs.declared.phase.Phase as phases_of
use Rattle.mi_seq.specs.declared.standard.Standard.{Standard}
use Rattle.mi_seq.specs.declared.standard.Standard.TheVariants as standard
use Rattle.mi_seq.specs.Meaning.{effect, phase_action}
use Rattle.mi_seq.specs.declared.standard.Entry.{Entry}
use Rattle.mi_seq.specs.declared.step.Step.{Step}
use Rattle.mi_seq.specs.declared.refusal.Stop.{Stop}
use Rattle.mi_seq.specs.Stops.{Answers}
use Rattle.mi_seq.specs.Standards.{entry_as, standard_actions, all_phases, phase_entry, plain_entry, does, IsNamed}

-- what an action does by the table
abbrev pub by_table : Rows → Lookups → List Name → Name → Option Standard → Result model.Step Fault
by_table rows L begun action (Some s) = does s begun action
by_table rows L begun action None = custom_step L begun action (custom_action rows action)

-- ---- phases and actions without effect

phases-all : phases ≡ map (λ (p : phases_of.Phase). (phase_action p, effect p)) all_phases
unfolding phases
phases-all = refl

abbrev rest_of_all : List (Name × Standard)
rest_of_all = map phase_entry all_phases ++ map plain_entry without_effect

module _ (rows : Rows) (L : Lookups) (begun : List Name) (action : Name) where
  plain : (names : List Name) → by_table rows L begun action (named action (map plain_entry names))
      ≡ (if is_among action names then Ok model.Plain else custom_step L begun action (custom_action rows action))
  plain [] = refl
  plain (n ∷ names) = elim (same_name action n) as (λ b. by_table rows L begun action (option_map (λ (p : Name × Standard). p.1) (cond b (Some (plain_entry n)) (find (λ (p : Name × Standard). same_name action p.0) (map plain_entry names))))
      ≡ (if (b || is_among action names) then Ok model.Plain else custom_step L begun action (custom_action rows action))) [
        | true ↦ refl
        | false ↦ plain names
      ]

  phased : (ps : List phases_of.Phase) → by_table rows L begun action (named action (map phase_entry ps ++ map plain_entry without_effect))
      ≡ phase_or rows L begun action (named action (map (λ (p : phases_of.Phase). (phase_action p, effect p)) ps))
  phased [] = plain without_effect
  phased (p ∷ ps) = elim (same_name action (phase_action p)) as (λ b.
      by_table rows L begun action (option_map (λ (q : Name × Standard). q.1) (cond b (Some (phase_entry p)) (find (λ (q : Name × Standard). same_name action q.0) (map phase_entry ps ++ map plain_entry without_effect))))
      ≡ phase_or rows L begun action (option_map (λ (q : Name × Effect). q.1) (cond b (Some (phase_action p, effect p)) (find (λ (q : Name × Effect). same_name action q.0) (map (λ (q : phases_of.Phase). (phase_action q, effect q)) ps))))) [
        | true ↦ refl
        | false ↦ phased ps
      ]

  from_phases : by_table rows L begun action (named action (map phase_entry all_phases ++ map plain_entry without_effect)) ≡ phase_or rows L begun action (effect_of action)
  unfolding effect_of
  from_phases = phased all_phases ∙ ap (λ ps. phase_or rows L begun action (named action ps)) (sym phases-all)

  -- ---- the whole table

  entry : (n : Name) (s : Standard) (es : List (Name × Standard)) (r : Result model.Step Fault) → by_table rows L begun action (named action es) ≡ r
      → by_table rows L begun action (named action ((n, s) ∷ es)) ≡ (if same_name action n then does s begun action else r)
  entry n s es r e = elim (same_name action n) as (λ b. by_table rows L begun action (option_map (λ (p : Name × Standard). p.1) (cond b (Some (n, s)) (find (λ (p : Name × Standard). same_name action p.0) es)))
      ≡ (if b then does s begun action else r)) [ true ↦ refl | false ↦ e ]

  one_of_three : {A : Type 0} (a b c : Bool) (x y : A) → (if a then x else if b then x else if c then x else y) ≡ (if (a || b) || c then x else y)
  one_of_three true b c x y = refl
  one_of_three false true c x y = refl
  one_of_three false false true x y = refl
  one_of_three false false false x y = refl

  ends_of : Result model.Step Fault
  ends_of = in_order action (is_inside begun) model.Ends

  pub step_of-table : by_table rows L begun action (named action standard_actions) ≡ step_of rows L begun action
  unfolding step_of standard_actions ends_of
  step_of-table =
      let five = (codes "InstallFinalize", standard.Finalize) ∷ rest_of_all in
      let four = (codes "InstallExecuteAgain", standard.Execute) ∷ five in
      let three = (codes "InstallExecute", standard.Execute) ∷ four in
      let two = (codes "InstallInitialize", standard.Initialize) ∷ three in
      let one = (codes "CostFinalize", standard.Cost) ∷ two in
      entry (codes "LaunchConditions") standard.Launch one _
      (entry (codes "CostFinalize") standard.Cost two _
      (entry (codes "InstallInitialize") standard.Initialize three _
      (entry (codes "InstallExecute") standard.Execute four _
      (entry (codes "InstallExecuteAgain") standard.Execute five _
      (entry (codes "InstallFinalize") standard.Finalize rest_of_all _ from_phases))
      ∙ one_of_three (same_name action (codes "InstallExecute")) (same_name action (codes "InstallExecuteAgain")) (same_name action (codes "InstallFinalize")) ends_of (phase_or rows L begun action (effect_of action)))))

-- ---- names

abbrev AreNamed : List (Name × Standard) → Type 0
AreNamed [] = Unit {0}
AreNamed (e ∷ es) = IsNamed e.1 e.0 × AreNamed es

are_plain : (names : List Name) → AreNamed (map plain_entry names)
are_plain [] = tt
are_plain (n ∷ names) = (tt, are_plain names)

are_phases : (ps : List phases_of.Phase) (es : List (Name × Standard)) → AreNamed es → AreNamed (map phase_entry ps ++ es)
are_phases [] es are = are
are_phases (p ∷ ps) es are = (refl, are_phases ps es are)

all_named : AreNamed standard_actions
unfolding standard_actions
all_named = (refl, (refl, (refl, (tt, (tt, (refl, are_phases all_phases (map plain_entry without_effect) (are_plain without_effect)))))))

named_in : (es : List (Name × Standard)) → AreNamed es → (action : Name) (s : Standard) → named action es ≡ Some s → IsNamed s action
named_in [] are action s e = cc
named_in (x ∷ es) are action s e =
    elim (same_name action x.0) as (λ b. same_name action x.0 ≡ b → option_map (λ (p : Name × Standard). p.1) (cond b (Some x) (find (λ (p : Name × Standard). same_name action p.0) es)) ≡ Some s → IsNamed s action) [
      | true ↦ λ is at. subst (λ (t : Standard). IsNamed t action) (the_same at) (subst (λ (n : Name). IsNamed x.1 n) (sym (from_same action x.0 is)) are.0)
      | false ↦ λ is at. named_in es are.1 action s at
    ] refl e
  where
    the_same : ◌≡◌ {A = Option Standard} (Some x.1) (Some s) → x.1 ≡ s
    the_same at = cc

pub name_of_standard : (action : Name) (s : Standard) → named action standard_actions ≡ Some s → IsNamed s action
name_of_standard action s e = named_in standard_actions all_named action s e

-- ---- in the program's table

entry_cons : (q : Name) (e : Entry) (es : List (Name × Standard)) → named q (entry_as e ∷ es) ≡ cond (bytes_eq q e.name.now) (Some e.standard) (named q es)
entry_cons q e es =
    ap (λ b. option_map (λ (p : Name × Standard). p.1) (cond b (Some (entry_as e)) (find (λ (p : Name × Standard). same_name q p.0) es))) (is_eq-slice_cmp q e.name.now)
    ∙ elim (bytes_eq q e.name.now) as (λ b. option_map (λ (p : Name × Standard). p.1) (cond b (Some (entry_as e)) (find (λ (p : Name × Standard). same_name q p.0) es)) ≡ cond b (Some e.standard) (named q es)) [ true ↦ refl | false ↦ refl ]

pub entry_next : (q : Name) (xs : List Entry) (i : ℕ) (d : Entry) → i < length xs
    → named q (map entry_as (drop i xs)) ≡ cond (bytes_eq q (get_or xs i d).name.now) (Some (get_or xs i d).standard) (named q (map entry_as (drop (i + 1) xs)))
entry_next q xs i d h =
    ap (λ (es : List Entry). named q (map entry_as es)) (drop-cons xs i d h)
    ∙ entry_cons q (get_or xs i d) (map entry_as (drop (suc i) xs))
    ∙ ap (λ n. cond (bytes_eq q (get_or xs i d).name.now) (Some (get_or xs i d).standard) (named q (map entry_as (drop n xs)))) (sym (add-one i))

pub entry_here : (q : Name) (xs : List Entry) (i : ℕ) (d : Entry) → i < length xs → bytes_eq q (get_or xs i d).name.now ≡ true → named q (map entry_as (drop i xs)) ≡ Some (get_or xs i d).standard
entry_here q xs i d h is = entry_next q xs i d h ∙ ap (λ b. cond b (Some (get_or xs i d).standard) (named q (map entry_as (drop (i + 1) xs)))) is

pub entry_behind : (q : Name) (xs : List Entry) (i : ℕ) (d : Entry) → i < length xs → bytes_eq q (get_or xs i d).name.now ≡ false → named q (map entry_as (drop i xs)) ≡ named q (map entry_as (drop (i + 1) xs))
entry_behind q xs i d h isnt = entry_next q xs i d h ∙ ap (λ b. cond b (Some (get_or xs i d).standard) (named q (map entry_as (drop (i + 1) xs)))) isnt

-- ---- answers

pub named_if : (action : Name) (o : Option Standard) → o ≡ named action standard_actions → IfSome o (λ s. IsNamed s action)
named_if action None e = tt
named_if action (Some s) e = name_of_standard action s (sym e)

pub standard_answers : (rows : Rows) (L : Lookups) (begun : List Name) (action found text : Name) (s : Standard) (result : Result Step Stop) → found ≡ action → text ≡ action
    → Some s ≡ named found standard_actions → Answers (does s begun text) text result → Answers (step_of rows L begun action) action result
standard_answers rows L begun action found text s result found_is text_is e answers =
    subst (λ (r : Result model.Step Fault). Answers r action result)
    (ap (by_table rows L begun action) (e ∙ ap (λ (t : Name). named t standard_actions) found_is) ∙ step_of-table rows L begun action)
    (subst (λ (t : Name). Answers (does s begun t) t result) text_is answers)

pub custom_answers : (rows : Rows) (L : Lookups) (begun : List Name) (action found : Name) (result : Result Step Stop) → found ≡ action
    → None ≡ named found standard_actions → Answers (custom_step L begun action (custom_action rows action)) action result → Answers (step_of rows L begun action) action result
custom_answers rows L begun action found result found_is e answers =
    subst (λ (r : Result model.Step Fault). Answers r action result)
    (ap (by_table rows L begun action) (e ∙ ap (λ (t : Name). named t standard_actions) found_is) ∙ step_of-table rows L begun action)
    answers
