-- The map that a tree of the program means, whose keys are seen as names.
use Rattle.std.proofs.Common.{◌≡◌, Bool, true, false, cond, T, ◌&&◌, List, [], ◌∷◌, map, Option, Some, refl, sym, ap, subst, ◌∙◌}
use Rattle.std.specs.Ordering.{is_lt}
use Rattle.std.specs.declared.cmp.Ordering.{Ordering}
use Rattle.std.specs.declared.cmp.Ordering.TheVariants.{Less}
use Rattle.std.specs.List.{AllByRecursion}
use Rattle.std.specs.List.Sorted.{IsStrictlySortedBy}
use Rattle.std.proofs.lemmas.Map.Keys.{sorted_head, sorted_tail}
use Rattle.std.specs.FinMap.Entries.{below_all}
use Rattle.std.specs.Cmp.{eq_by_cmp_equiv}
use Rattle.std.specs.Cmp.Lexicographic.{nat_list_cmp_total}
use Rattle.std.specs.FinMap.{entries, is_sorted, get, from_entries, find, get-from_entries}
use Rattle.std.specs.BTreeMap.{BTreeMap, is_at}
use Rattle.std.specs.BTreeMap as tree
use Rattle.std.specs.Map.{lookup, KeepsOthers, IsKeyTest, AreApart}
use Rattle.mi_text.specs.Maps.{Name, Map, name_cmp, same_name, set_to}
use Rattle.mi_text.proofs.MapLemmas.{entries-from_entries, names_total, from_same, same, get-set_to}

-- an entry of the tree, with its key seen as a name
abbrev pub pair_as : {K X : Type 0} → (K → Name) → K × X → Name × X
pair_as seen e = (seen e.0, e.1)

-- the map of the tree's entries, each under its key's name
abbrev pub map_as : {K X : Type 0} → (K → Name) → List (K × X) → Map X
map_as seen es = from_entries (map (pair_as seen) es)

-- the order of keys: that of their names
abbrev pub cmp_as : {K : Type 0} → (K → Name) → K → K → Ordering
cmp_as seen a b = name_cmp (seen a) (seen b)

-- whether a key is seen as the name q
abbrev pub at_as : {K : Type 0} → (K → Name) → Name → K → Bool
at_as seen q = is_at (λ k. name_cmp q (seen k))

find-pairs : {K X : Type 0} (seen : K → Name) (es : List (K × X)) (q : Name) → find name_cmp q (map (pair_as seen) es) ≡ lookup (at_as seen q) es
find-pairs seen [] q = refl
find-pairs seen (e ∷ es) q = ap (cond (at_as seen q e.0) (Some e.1)) (find-pairs seen es q)

-- what stands at a name
pub get-map_as : {K X : Type 0} (seen : K → Name) (es : List (K × X)) (q : Name) → get (map_as seen es) q ≡ lookup (at_as seen q) es
get-map_as seen es q = get-from_entries names_total (map (pair_as seen) es) q ∙ find-pairs seen es q

module _ {K X : Type 0} (eq : K → K → Bool) (test : K → Bool) where
  others : (old new : List (K × X)) → KeepsOthers eq test old new → (other : K → Bool) → IsKeyTest eq other → AreApart test other → lookup other new ≡ lookup other old
  unfolding KeepsOthers
  others old new h = h

apart : (q k n : Name) → same_name q n ≡ false → same_name n k ≡ true → same_name q k ≡ false
apart q k n differ is = ap (λ (x : Name). same_name q x) (sym (from_same n k is)) ∙ differ

-- after a change at the name n
pub stored_as : {K X : Type 0} (seen : K → Name) (m new : BTreeMap K X) (n : Name) (w : Option X) → tree.UpdatesBy (cmp_as seen) (λ k. name_cmp n (seen k)) m new w
    → map_as seen new.entries ≡ set_to (map_as seen m.entries) n w
stored_as seen m new n w u = same _ _ (λ q.
    get-map_as seen new.entries q
    ∙ elim (same_name q n) as (λ b. same_name q n ≡ b → lookup (at_as seen q) new.entries ≡ cond b w (lookup (at_as seen q) m.entries)) [
      | true ↦ λ e. ap (λ (k : Name). lookup (at_as seen k) new.entries) (from_same q n e) ∙ u.1
      | false ↦ λ e. others _ _ _ _ u.3 _ (λ x y. (eq_by_cmp_equiv nat_list_cmp_total).congr q (seen x) (seen y)) (λ k. apart q (seen k) n e)
    ] refl
    ∙ sym (get-set_to (map_as seen m.entries) n w q ∙ ap (cond (same_name q n) w) (get-map_as seen m.entries q)))

below : {K X : Type 0} (seen : K → Name) (k : K) (es : List (K × X)) → AllByRecursion (λ y. cmp_as seen k y ≡ Less) (map (λ e. e.0) es) → T (below_all name_cmp (seen k) (map (pair_as seen) es))
below seen k [] all = tt
below seen k (e ∷ es) all = subst (λ o. T (is_lt o && below_all name_cmp (seen k) (map (pair_as seen) es))) (sym all.0) (below seen k es all.1)

in_order : {K X : Type 0} (seen : K → Name) (es : List (K × X)) → IsStrictlySortedBy (cmp_as seen) (map (λ e. e.0) es) → T (is_sorted name_cmp (map (pair_as seen) es))
in_order seen [] sorted = tt
in_order seen (e ∷ es) sorted = both _ _ (below seen e.0 es (sorted_head (cmp_as seen) e.0 (map (λ e. e.0) es) sorted)) (in_order seen es (sorted_tail (cmp_as seen) e.0 (map (λ e. e.0) es) sorted))
  where
    both : (a b : Bool) → T a → T b → T (a && b)
    both true b p q = q
    both false b p q = absurd p

-- the entries of the tree, in order, are those of the map
pub entries-map_as : {K X : Type 0} (seen : K → Name) (m : BTreeMap K X) → tree.IsOrdered (cmp_as seen) m → entries (map_as seen m.entries) ≡ map (pair_as seen) m.entries
entries-map_as seen m ordered = entries-from_entries (map (pair_as seen) m.entries) (in_order seen m.entries ordered)
