-- The values that rows of kept components guard, row by row.
use Rattle.std.proofs.Common.{◌≡◌, Bool, true, false, cond, ◌&&◌, ◌||◌, List, [], ◌∷◌, Option, Some, None, refl, sym, ap, ◌∙◌}
use Rattle.std.specs.Prelude.{option_map}
use Rattle.std.specs.List.{list_any, filter_map, cons_option}
use Rattle.std.specs.Option.{option_map_or}
use Rattle.std.specs.Result.{result_ok}
use Rattle.std.specs.Ordering.{is_eq}
use Rattle.mi_text.specs.Lookups.{Lookups}
use Rattle.mi_text.specs.Maps.{Name, name_cmp, same_name}
use Rattle.mi_schema.specs.declared.package.Package.{Package}
use Rattle.mi_schema.specs.declared.typed_rows.RegistryRow.{RegistryRow}
use Rattle.mi_schema.specs.TableRows.{Numbered, numbered_from}
use Rattle.mi_model.specs.World.{World}
use Rattle.mi_model.specs.Asked.{keeps}
use Rattle.mi_model.specs.RegistryGuards.{value_named, is_guarded_value}
use Rattle.mi_model.specs.RegistryRows.{name_of_value, registry_place}
use Rattle.mi_records.specs.Choices.{Choices, IsAsked}
use Rattle.mi_records.specs.Removing.{guard_of, named_values}
use Rattle.mi_records.proofs.ItemLemmas.{turned}
use Rattle.mi_records.proofs.SeatLemmas.{or_none}

-- a row guards this value
abbrev guards_it : World → Name → Numbered RegistryRow → Bool
guards_it w name r = keeps w r.row.component && option_map_or (same_name name) (value_named w r) false

by_guard : (w : World) (name : Name) (r : Numbered RegistryRow) → guards_it w name r ≡ option_map_or (same_name name) (guard_of w r) false
by_guard w name r = elim (keeps w r.row.component) as (λ b. (b && option_map_or (same_name name) (value_named w r) false) ≡ option_map_or (same_name name) (cond b (value_named w r) None) false) [
  | true ↦ refl
  | false ↦ refl
]

-- a value is guarded where it is among those that the rows name
pub among_named : (w : World) (name : Name) → list_any (same_name name) (named_values w) ≡ is_guarded_value w name
unfolding is_guarded_value
among_named w name = by_rows (numbered_from 1 w.given.rows.registry)
  where
    one : (o : Option Name) (names : List Name) → list_any (same_name name) (cons_option o names) ≡ (option_map_or (same_name name) o false || list_any (same_name name) names)
    one None names = refl
    one (Some x) names = refl

    by_rows : (rs : List (Numbered RegistryRow)) → list_any (same_name name) (filter_map (guard_of w) rs) ≡ list_any (guards_it w name) rs
    by_rows [] = refl
    by_rows (r ∷ rs) =
        one (guard_of w r) (filter_map (guard_of w) rs)
        ∙ ap (λ b. b || list_any (same_name name) (filter_map (guard_of w) rs)) (sym (by_guard w name r))
        ∙ ap (λ b. guards_it w name r || b) (by_rows rs)

-- a row of a component that is kept, and of one that isn't
module _ (L : Lookups) (c : Choices) (p : Package) (w : World) (asked : IsAsked L c p w) where
  pub guard_kept : (r : Numbered RegistryRow) (o : Option Name) → c.kept r.row.component ≡ true → o ≡ option_map name_of_value (result_ok (registry_place L r)) → o ≡ guard_of w r
  guard_kept r o kept is =
      is ∙ ap (λ (K : Lookups). option_map name_of_value (result_ok (registry_place K r))) (sym asked.lookups)
      ∙ ap (λ b. cond b (value_named w r) None) (sym (asked.kept r.row.component ∙ kept))

  pub guard_none : (r : Numbered RegistryRow) → c.kept r.row.component ≡ false → None ≡ guard_of w r
  guard_none r kept = ap (λ b. cond b (value_named w r) None) (sym (asked.kept r.row.component ∙ kept))

-- ---- one name more in a set

pub one_added : (b : Bool) (key q : Name) → cond (is_eq (name_cmp key q)) true b ≡ (b || same_name q key)
one_added b key q = elim (same_name key q) as (λ t. same_name key q ≡ t → cond t true b ≡ (b || same_name q key)) [
  | true ↦ λ is. sym (or_true b) ∙ ap (λ t. b || t) (sym (turned key q true is))
  | false ↦ λ is. sym (or_none b) ∙ ap (λ t. b || t) (sym (turned key q false is))
] refl
  where
    or_true : (b : Bool) → (b || true) ≡ true
    or_true true = refl
    or_true false = refl
