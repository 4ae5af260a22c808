-- The map that the program's tree of names means.
use Rattle.std.proofs.Common.{◌≡◌, true, false, cond, List, [], ◌∷◌, map, Option, Some, refl, sym, ap, subst, ◌∙◌}
use Rattle.std.specs.Prelude.{option_map, String, string_bytes}
use Rattle.std.specs.declared.alloc.Global.{Global}
use Rattle.std.specs.Ordering.{nat_cmp}
use Rattle.std.specs.declared.cmp.Ordering.{Ordering}
use Rattle.std.specs.Cmp.Lexicographic.{slice_cmp}
use Rattle.std.specs.FinMap.{empty, get-empty, entries, get}
use Rattle.std.specs.BTreeMap.{BTreeMap}
use Rattle.std.specs.BTreeMap as tree
use Rattle.std.specs.Map.{lookup}
use Rattle.mi_text.specs.Maps.{Name, name_cmp, same_name, set_to, map_values}
use Rattle.mi_text.proofs.MapLemmas.{same, from_same, get-set_to, get-map_values, entries-map_values}
use Rattle.mi_text.proofs.TreeLemmas.{at_as, map_as, get-map_as, stored_as, entries-map_as}
use Rattle.mi_changes.proofs.TouchLemmas.{map_values-set_to}
use Rattle.mi_image.specs.declared.item.Item.{Item}
use Rattle.mi_image.specs.Items.{Items, Boxed, unboxed, items_of, AreRight, MayStand}

abbrev pub Key : Type 0
Key = String Global

abbrev pub key_cmp : Key → Key → Ordering
key_cmp a b = slice_cmp nat_cmp (string_bytes a) (string_bytes b)

-- an entry of the tree, as a name and an item
abbrev pub pair_of : Key × Boxed → Name × Item
pair_of e = (string_bytes e.0, unboxed e.1)

-- what stands at a name
pub get-items : (es : List (Key × Boxed)) (q : Name) → get (items_of es) q ≡ option_map unboxed (lookup (at_as (λ (k : Key). string_bytes k) q) es)
get-items es q = get-map_values unboxed (map_as (λ (k : Key). string_bytes k) es) q ∙ ap (option_map unboxed) (get-map_as (λ (k : Key). string_bytes k) es q)

-- after a change at the name n
pub stored : (m new : BTreeMap Key Boxed) (n : Name) (w : Option Boxed) → tree.UpdatesBy key_cmp (λ k. slice_cmp nat_cmp n (string_bytes k)) m new w
    → items_of new.entries ≡ set_to (items_of m.entries) n (option_map unboxed w)
stored m new n w u = ap (map_values unboxed) (stored_as (λ (k : Key). string_bytes k) m new n w u) ∙ map_values-set_to unboxed (map_as (λ (k : Key). string_bytes k) m.entries) n w

-- the entries of the tree, in order, are those of the map
pub entries-items : (m : BTreeMap Key Boxed) → tree.IsOrdered key_cmp m → entries (items_of m.entries) ≡ map pair_of m.entries
entries-items m ordered =
    entries-map_values unboxed (map_as (λ (k : Key). string_bytes k) m.entries)
    ∙ ap (map (λ (e : Name × Boxed). (e.0, unboxed e.1))) (entries-map_as (λ (k : Key). string_bytes k) m ordered)
    ∙ at_once m.entries
  where
    at_once : (es : List (Key × Boxed)) → map (λ (e : Name × Boxed). (e.0, unboxed e.1)) (map (λ (e : Key × Boxed). (string_bytes e.0, e.1)) es) ≡ map pair_of es
    at_once [] = refl
    at_once (e ∷ es) = ap (λ (xs : List (Name × Item)). pair_of e ∷ xs) (at_once es)

-- each item may stand where it does still, where one is set that may
pub right_set : (m new : Items) (n : Name) (o : Option Item) → new ≡ set_to m n o → AreRight m → ((i : Item) → o ≡ Some i → MayStand n i) → AreRight new
right_set m new n o is right may q i at =
    elim (same_name q n) as (λ b. same_name q n ≡ b → cond b o (get m q) ≡ Some i → MayStand q i) [
      | true ↦ λ e h. subst (λ k. MayStand k i) (sym (from_same q n e)) (may i h)
      | false ↦ λ e h. right q i h
    ] refl (sym (get-set_to m n o q) ∙ ap (λ k. get k q) (sym is) ∙ at)

pub none_right : AreRight (items_of [])
none_right q i at = let none = get-items [] q in absurd cc

pub no_items : (es : List (Key × Boxed)) → es ≡ [] → items_of es ≡ empty
no_items es none = same _ _ (λ q. get-items es q ∙ ap (λ (ks : List (Key × Boxed)). option_map unboxed (lookup (at_as (λ (k : Key). string_bytes k) q) ks)) none ∙ sym (get-empty name_cmp q))
