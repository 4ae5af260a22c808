-- Where no component changes, no row of one is taken.
use Rattle.std.proofs.Common.{◌≡◌, Bool, true, false, cond, List, [], ◌∷◌, refl, sym, ap, subst, ◌∙◌, ◌||◌}
use Rattle.std.specs.Prelude.{filter, Contains}
use Rattle.std.specs.List.{list_any, AllByRecursion}
use Rattle.std.specs.Map.{keys_of}
use Rattle.std.proofs.lemmas.List.Elements.{recursion_from_All, All-from_recursion, All-get_or}
use Rattle.mi_text.specs.Lookups.{Lookups}
use Rattle.mi_text.specs.Maps.{Name}
use Rattle.mi_schema.specs.declared.package.Package.{Package}
use Rattle.mi_schema.specs.declared.typed_rows.ComponentRow.{ComponentRow}
use Rattle.mi_schema.specs.declared.typed_rows.RegistryRow.{RegistryRow}
use Rattle.mi_schema.specs.Laws.{IsKeyOf, KeysStand, ReferencesStand}
use Rattle.mi_schema.specs.RowsOf.{rows_in, behind}
use Rattle.mi_schema.specs.TableRows.{Numbered, in_key_order, Rows as TableRows}
use Rattle.mi_model.specs.World.{World}
use Rattle.mi_model.specs.Asked.{comes, leaves}
use Rattle.mi_model.specs.ComponentRows.{rows_that}
use Rattle.mi_model.specs.RemoveRegistryValues.{leaving_rows}
use Rattle.mi_model.specs.WriteRegistryValues.{is_written, written_rows}
use Rattle.mi_model_laws.proofs.CountLemmas.{none_in_order}
use Rattle.mi_records.specs.Choices.{Choices, IsAsked}

-- ---- a loop that looks for one

module _ {R : Type 0} (test : R → Bool) where
  pub any_more : (rest more : List R) (row : R) (b : Bool) → rest ≡ row ∷ more → test row ≡ false → list_any test rest ≡ b → list_any test more ≡ b
  any_more rest more row b is fails all = sym (ap (list_any test) is ∙ ap (λ t. t || list_any test more) fails) ∙ all

  pub any_found : (rest more : List R) (row : R) (b : Bool) → rest ≡ row ∷ more → test row ≡ true → list_any test rest ≡ b → true ≡ b
  any_found rest more row b is passes all = sym (ap (list_any test) is ∙ ap (λ t. t || list_any test more) passes) ∙ all

  pub any_none : (rest : List R) (b : Bool) → rest ≡ [] → list_any test rest ≡ b → false ≡ b
  any_none rest b is all = sym (ap (list_any test) is) ∙ all

-- ---- a test that nothing passes

first_fails : (a b : Bool) → (a || b) ≡ false → a ≡ false
first_fails true b e = e
first_fails false b e = refl

rest_fails : (a b : Bool) → (a || b) ≡ false → b ≡ false
rest_fails true b e = cc
rest_fails false b e = e

both_fail : (a b : Bool) → a ≡ false → b ≡ false → (a || b) ≡ false
both_fail true b x y = x
both_fail false b x y = y

nothing_left : {R : Type 0} (test : R → Bool) (rows : List R) → list_any test rows ≡ false → [] ≡ filter test rows
nothing_left test [] none = refl
nothing_left test (r ∷ rows) none =
    nothing_left test rows (rest_fails (test r) (list_any test rows) none)
    ∙ ap (λ b. cond b (r ∷ filter test rows) (filter test rows)) (sym (first_fails (test r) (list_any test rows) none))

all_fail : {R : Type 0} (test : R → Bool) (rows : List R) → list_any test rows ≡ false → AllByRecursion (λ r. test r ≡ false) rows
all_fail test [] none = tt
all_fail test (r ∷ rows) none = (first_fails (test r) (list_any test rows) none, all_fail test rows (rest_fails (test r) (list_any test rows) none))

one_fails : (test : Name → Bool) (names : List Name) (name : Name) → list_any test names ≡ false → Contains names name → test name ≡ false
one_fails test names name none c =
    subst (λ (n : Name). test n ≡ false) c.2 (All-get_or (λ (n : Name). test n ≡ false) names c.0 name c.1 (All-from_recursion (λ (n : Name). test n ≡ false) names (all_fail test names none)))

-- ---- the rows of a table

module _ (test : Name → Bool) where
  -- the components by their keys
  by_keys : (components : List (Name × ComponentRow)) → AllByRecursion (λ e. e.0 ≡ e.1.component) components → list_any test (keys_of components) ≡ list_any (λ (r : ComponentRow). test r.component) (behind components)
  by_keys [] all = refl
  by_keys (e ∷ components) all =
      ap (λ (n : Name). test n || list_any test (keys_of components)) all.0 ∙ ap (λ b. test e.1.component || b) (by_keys components all.1)

  by_rows : (keys : List Name) (rows : List (Name × RegistryRow)) → list_any test keys ≡ false → AllByRecursion (λ e. Contains keys e.1.component) rows → list_any (λ (r : RegistryRow). test r.component) (behind rows) ≡ false
  by_rows keys [] none all = refl
  by_rows keys (e ∷ rows) none all = both_fail (test e.1.component) (list_any (λ (r : RegistryRow). test r.component) (behind rows)) (one_fails test keys e.1.component none all.0) (by_rows keys rows none all.1)

  none_of : (p : Package) → KeysStand p → ReferencesStand p → list_any (λ (r : ComponentRow). test r.component) (rows_in p).component ≡ false → list_any (λ (r : RegistryRow). test r.component) (rows_in p).registry ≡ false
  unfolding rows_in
  none_of p stand refer none =
      by_rows (keys_of p.component.entries) p.registry.entries (by_keys p.component.entries (recursion_from_All (λ (e : Name × ComponentRow). e.0 ≡ e.1.component) p.component.entries stand.component) ∙ none)
      (recursion_from_All (λ (e : Name × RegistryRow). IsKeyOf p.component.entries e.1.component) p.registry.entries refer.registry_component)

  none_that : (rows : List RegistryRow) → list_any (λ (r : RegistryRow). test r.component) rows ≡ false → [] ≡ rows_that (λ (r : RegistryRow). r.registry) (λ (r : RegistryRow). r.component) test rows
  none_that rows none =
      nothing_left (λ (r : Numbered RegistryRow). test r.row.component) (in_key_order (λ (r : RegistryRow). r.registry) rows)
      (none_in_order (λ (r : RegistryRow). r.registry) (λ (r : RegistryRow). test r.component) rows none)

same_any : {R : Type 0} (test other : R → Bool) → ((r : R) → test r ≡ other r) → (rows : List R) → list_any test rows ≡ list_any other rows
same_any test other same [] = refl
same_any test other same (r ∷ rows) = ap (λ b. b || list_any test rows) (same r) ∙ ap (λ b. other r || b) (same_any test other same rows)

module _ (L : Lookups) (c : Choices) (p : Package) (w : World) (asked : IsAsked L c p w) (stand : KeysStand p) (refer : ReferencesStand p) where
  rows_none : (test other : Name → Bool) → ((name : Name) → test name ≡ other name) → list_any (λ (r : ComponentRow). other r.component) (rows_in p).component ≡ false
      → [] ≡ rows_that (λ (r : RegistryRow). r.registry) (λ (r : RegistryRow). r.component) test w.given.rows.registry
  rows_none test other same none =
      none_that test w.given.rows.registry
      (ap (λ (rs : TableRows). list_any (λ (r : RegistryRow). test r.component) rs.registry) asked.rows
      ∙ none_of test p stand refer (same_any (λ (r : ComponentRow). test r.component) (λ (r : ComponentRow). other r.component) (λ r. same r.component) (rows_in p).component ∙ none))

  pub none_leave : list_any (λ (r : ComponentRow). c.leaving r.component) (rows_in p).component ≡ false → [] ≡ leaving_rows w
  unfolding leaving_rows
  none_leave none = rows_none (leaves w) c.leaving asked.leaving none

  pub none_come : list_any (λ (r : ComponentRow). c.coming r.component) (rows_in p).component ≡ false → [] ≡ written_rows w
  unfolding written_rows
  none_come none = ap (filter (is_written w)) (rows_none (comes w) c.coming asked.coming none)
