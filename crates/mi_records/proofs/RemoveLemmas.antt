-- What rows of RemoveRegistryValues make of a plan.
use Rattle.std.proofs.Common.{◌≡◌, ℕ, List, [], ◌∷◌, ◌++◌, refl, sym, ap, subst, ◌∙◌, append_assoc}
use Rattle.std.specs.Prelude.{Result, Ok, Err}
use Rattle.std.specs.FinMap.{keys}
use Rattle.mi_text.specs.Maps.{Map}
use Rattle.mi_text.specs.Lookups.{Lookups}
use Rattle.mi_base.specs.declared.entry.Entry.{Entry}
use Rattle.mi_base.specs.declared.answers.Fault.{Fault}
use Rattle.mi_base.specs.Machine.{Machine}
use Rattle.mi_source.specs.Paths.{Files}
use Rattle.mi_changes.specs.Touches.{Touch, after_touches}
use Rattle.mi_schema.specs.declared.typed_rows.RegistryRow.{RegistryRow}
use Rattle.mi_schema.specs.declared.typed_rows.RemoveRegistryRow.{RemoveRegistryRow}
use Rattle.mi_schema.specs.TableRows.{Numbered}
use Rattle.mi_script.specs.declared.rec.Rec.{Rec}
use Rattle.mi_model.specs.Texts.{Text}
use Rattle.mi_model.specs.World.{World, RowEffect}
use Rattle.mi_model.specs.Asked.{lookups}
use Rattle.mi_model.specs.PhaseRows.{Touches, after_rows, by_rows}
use Rattle.mi_model.specs.Plans.{all_touches}
use Rattle.mi_model.specs.Refusals.{◌>>=◌}
use Rattle.mi_model.specs.RegistryRows.{RegistryPlace, RegistryMeaning, registry_meaning, removal_place}
use Rattle.mi_model.specs.CountRows.{is_guarded}
use Rattle.mi_model.specs.RemoveRegistryValues.{removed_touches, remove_row, removal_touches, removal_row}
use Rattle.mi_model_laws.proofs.RowLemmas.{bound, from_ok, behind, with_first}
use Rattle.mi_model_laws.proofs.SpellLemmas.{by_rows_touch}
use Rattle.mi_steps.specs.declared.plan.Plan.{Plan}
use Rattle.mi_steps.specs.Follows.{Follows}
use Rattle.mi_steps.specs.Makes.{plan_machine}
use Rattle.mi_steps.specs.Rows.{FollowsRows}
use Rattle.mi_steps.proofs.FollowLemmas.{joined}
use Rattle.mi_records.specs.declared.error.PlanError.{PlanError}
use Rattle.mi_records.specs.declared.error.PlanError.TheVariants as error
use Rattle.mi_records.specs.declared.stop.Stop.{Stop}
use Rattle.mi_records.specs.declared.stop.Stop.TheVariants.{NoMemory, Refused}
use Rattle.mi_records.specs.Rows.{Only, RowIn, Rows}

-- ---- a row of Registry

module _ (w : World) (L : Lookups) (r : Numbered RegistryRow) (m : Machine) (same : lookups w ≡ L) where
  abbrev takes : Result RegistryMeaning Fault → Result (List (Touch Entry)) Fault
  takes x = x >>= λ meaning. Ok (removed_touches (is_guarded w) meaning (keys m))

  pub row_removes : (meaning : RegistryMeaning) → registry_meaning L r ≡ Ok meaning → remove_row w r m ≡ Ok (removed_touches (is_guarded w) meaning (keys m))
  unfolding remove_row
  row_removes meaning is = ap (λ (K : Lookups). takes (registry_meaning K r)) same ∙ ap takes is

  pub row_removes_nothing : (f : Fault) → registry_meaning L r ≡ Err f → remove_row w r m ≡ Err f
  unfolding remove_row
  row_removes_nothing f is = ap (λ (K : Lookups). takes (registry_meaning K r)) same ∙ ap takes is

-- ---- a row of RemoveRegistry

module _ (w : World) (L : Lookups) (r : Numbered RemoveRegistryRow) (m : Machine) (same : lookups w ≡ L) where
  abbrev takes_place : Result RegistryPlace Fault → Result (List (Touch Entry)) Fault
  takes_place x = x >>= λ p. Ok (removal_touches p (keys m))

  pub row_takes : (p : RegistryPlace) → removal_place L r ≡ Ok p → removal_row w r m ≡ Ok (removal_touches p (keys m))
  unfolding removal_row
  row_takes p is = ap (λ (K : Lookups). takes_place (removal_place K r)) same ∙ ap takes_place is

  pub row_takes_nothing : (f : Fault) → removal_place L r ≡ Err f → removal_row w r m ≡ Err f
  unfolding removal_row
  row_takes_nothing f is = ap (λ (K : Lookups). takes_place (removal_place K r)) same ∙ ap takes_place is

-- ---- touches that were made, as a row

pub only_made : {A : Type 0} (held : Map (List ℕ)) (files : Files) (a b : Plan) (table : Text) (row : ℕ) (effect : RowEffect) (touches : List (Touch Entry)) (r : Result A Stop)
    → effect (plan_machine held files a) ≡ Ok touches → Only held files a b touches r → RowIn held files a b table row effect r
only_made held files a b table row effect touches (Ok done) gives made = record { touches = touches; gives = gives; makes = made }
only_made held files a b table row effect touches (Err NoMemory) gives made = tt
only_made held files a b table row effect touches (Err (Refused why)) gives made = absurd made

-- ---- rows behind rows

append-rows : (xs : List Touches) (ys : List Touches) → all_touches (xs ++ ys) ≡ all_touches xs ++ all_touches ys
append-rows [] ys = refl
append-rows (x ∷ xs) ys = ap (λ (ts : Touches). x ++ ts) (append-rows xs ys) ∙ sym (append_assoc x (all_touches xs) (all_touches ys))

by_rows-append : (m : Machine) (effects more : List RowEffect) (rows : List Touches) (x : Result (List Touches) Fault) → by_rows m effects ≡ Ok rows → by_rows (after_rows m rows) more ≡ x
    → by_rows m (effects ++ more) ≡ (x >>= λ touches. Ok (rows ++ touches))
by_rows-append m [] more rows x is then =
    let none : [] ≡ rows = from_ok [] rows is in
    subst (λ (rs : List Touches). by_rows (after_rows m rs) more ≡ x → by_rows m more ≡ (x >>= λ touches. Ok (rs ++ touches))) none (λ then. then ∙ itself x) then
  where
    itself : (x : Result (List Touches) Fault) → x ≡ (x >>= λ touches. Ok touches)
    itself (Ok touches) = refl
    itself (Err f) = refl
by_rows-append m (e ∷ effects) more rows x is then =
    let one = bound (e m) (behind m effects) rows is in
    let rest = bound (by_rows (after_touches m one.value) effects) (with_first one.value) rows one.rest in
    let whole : one.value ∷ rest.value ≡ rows = from_ok (one.value ∷ rest.value) rows rest.rest in
    ap (λ y. y >>= behind m (effects ++ more)) one.is
    ∙ ap (λ y. y >>= with_first one.value) (by_rows-append (after_touches m one.value) effects more rest.value x rest.is (ap (λ (rs : List Touches). by_rows (after_rows m rs) more) whole ∙ then))
    ∙ twice x one.value rest.value
    ∙ ap (λ (rs : List Touches). x >>= λ touches. Ok (rs ++ touches)) whole
  where
    twice : (x : Result (List Touches) Fault) (ts : Touches) (rows : List Touches) → ((x >>= λ touches. Ok (rows ++ touches)) >>= with_first ts) ≡ (x >>= λ touches. Ok (ts ∷ (rows ++ touches)))
    twice (Ok touches) ts rows = refl
    twice (Err f) ts rows = refl

refused_rest : (ts : Touches) (y z : Result (List Touches) Fault) (f : Fault) → (y ≡ Err f → z ≡ Err f) → (y >>= with_first ts) ≡ Err f → (z >>= with_first ts) ≡ Err f
refused_rest ts (Ok rows) z f then is = cc
refused_rest ts (Err g) z f then is = let same : ◌≡◌ {A = Result (List Touches) Fault} (Err g) (Err f) = cc in ap (λ y. y >>= with_first ts) (then same)

refused_first : (m : Machine) (e : RowEffect) (effects more : List RowEffect) (f : Fault) (x : Result Touches Fault) → e m ≡ x
    → ((ts : Touches) → by_rows (after_touches m ts) effects ≡ Err f → by_rows (after_touches m ts) (effects ++ more) ≡ Err f) → by_rows m (e ∷ effects) ≡ Err f → by_rows m (e ∷ effects ++ more) ≡ Err f
refused_first m e effects more f (Ok ts) at then is =
    ap (λ y. y >>= behind m (effects ++ more)) at
    ∙ refused_rest ts (by_rows (after_touches m ts) effects) (by_rows (after_touches m ts) (effects ++ more)) f (then ts) (sym (ap (λ y. y >>= behind m effects) at) ∙ is)
refused_first m e effects more f (Err g) at then is = ap (λ y. y >>= behind m (effects ++ more)) at ∙ sym (ap (λ y. y >>= behind m effects) at) ∙ is

refused-append : (m : Machine) (effects more : List RowEffect) (f : Fault) → by_rows m effects ≡ Err f → by_rows m (effects ++ more) ≡ Err f
refused-append m [] more f is = cc
refused-append m (e ∷ effects) more f is = refused_first m e effects more f (e m) refl (λ ts rest. refused-append (after_touches m ts) effects more f rest) is

module _ (files : Files) (a b : Machine) (h i : List Rec) (effects : List RowEffect) (first : FollowsRows files a b h i effects) where
  at_rows : b ≡ after_rows a first.rows
  at_rows = first.follows.machine ∙ by_rows_touch a first.rows

  rows_joined : (c : Machine) (j : List Rec) (more : List RowEffect) → FollowsRows files b c i j more → FollowsRows files a c h j (effects ++ more)
  rows_joined c j more second = record {
    rows = first.rows ++ second.rows;
    touched = by_rows-append a effects more first.rows (Ok second.rows) first.touched (ap (λ m. by_rows m more) (sym at_rows) ∙ second.touched);
    follows = subst (λ ts. Follows files a c h j ts) (sym (append-rows first.rows second.rows)) (joined files a b c h i j (all_touches first.rows) (all_touches second.rows) first.follows second.follows);
  }

  rows_refused_behind : (more : List RowEffect) (f : Fault) → by_rows b more ≡ Err f → by_rows a (effects ++ more) ≡ Err f
  rows_refused_behind more f refused = by_rows-append a effects more first.rows (Err f) first.touched (ap (λ m. by_rows m more) (sym at_rows) ∙ refused)

module _ (held : Map (List ℕ)) (files : Files) (a b c : Plan) (effects more : List RowEffect) where
  -- rows behind rows that were carried out
  pub rows_then : {A : Type 0} (r : Result A PlanError) → FollowsRows files (plan_machine held files a) (plan_machine held files b) a.script b.script effects → Rows held files b c more r → Rows held files a c (effects ++ more) r
  rows_then (Ok done) first second = rows_joined files (plan_machine held files a) (plan_machine held files b) a.script b.script effects first (plan_machine held files c) c.script more second
  rows_then (Err error.NoMemory) first second = tt
  rows_then (Err (error.Fault f)) first second = rows_refused_behind files (plan_machine held files a) (plan_machine held files b) a.script b.script effects first more f second

  -- rows that weren't
  pub rows_not_then : (A B : Type 0) (e : PlanError) → Rows held files a b {A = A} effects (Err e) → Rows held files a c {A = B} (effects ++ more) (Err e)
  rows_not_then A B error.NoMemory refused = tt
  rows_not_then A B (error.Fault f) refused = refused-append (plan_machine held files a) effects more f refused
