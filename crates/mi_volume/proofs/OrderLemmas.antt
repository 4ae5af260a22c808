-- The order of the names in a tree and in its map.
use Rattle.std.proofs.Common.{◌≡◌, ℕ, Bool, true, false, cond, ◌&&◌, T, List, [], ◌∷◌, map, Option, Some, None, refl, sym, ap, subst, ◌∙◌}
use Rattle.std.specs.Prelude.{filter, find}
use Rattle.std.specs.List.{AllByRecursion}
use Rattle.std.specs.List.Sorted.{IsStrictlySortedBy}
use Rattle.std.specs.Map.{keys_of}
use Rattle.std.specs.Ordering.{is_lt, is_gt, ordering_reverse}
use Rattle.std.specs.declared.cmp.Ordering.{Ordering}
use Rattle.std.specs.declared.cmp.Ordering.TheVariants.{Less, Equal, Greater}
use Rattle.std.specs.FinMap.{entries, keys, is_sorted}
use Rattle.std.specs.FinMap.Entries.{below_all}
use Rattle.std.proofs.lemmas.Map.Keys.{sorted_head, sorted_tail}
use Rattle.mi_text.specs.Maps.{Name, name_cmp}
use Rattle.mi_text.specs.Next.{is_behind, next_name}
use Rattle.mi_text.proofs.MapLemmas.{names_total, entries-from_entries}
use Rattle.mi_volume.specs.Maps.{size, weight}
use Rattle.mi_volume.specs.Slots.{map_of}

both : (a b : Bool) → T a → T b → T (a && b)
both true b p q = q
both false b p q = absurd p

lower : (o : Ordering) → o ≡ Less → T (is_lt o)
lower o is = subst (λ (x : Ordering). T (is_lt x)) (sym is) tt

below_from : {X : Type 0} → (k : Name) (es : List (Name × X)) → AllByRecursion (λ y. name_cmp k y ≡ Less) (keys_of es) → T (below_all name_cmp k es)
below_from k [] below = tt
below_from k (e ∷ es) below = both (is_lt (name_cmp k e.0)) (below_all name_cmp k es) (lower (name_cmp k e.0) below.0) (below_from k es below.1)

sorted_from : {X : Type 0} → (es : List (Name × X)) → IsStrictlySortedBy name_cmp (keys_of es) → T (is_sorted name_cmp es)
sorted_from [] sorted = tt
sorted_from (e ∷ es) sorted =
    both (below_all name_cmp e.0 es) (is_sorted name_cmp es) (below_from e.0 es (sorted_head name_cmp e.0 (keys_of es) sorted)) (sorted_from es (sorted_tail name_cmp e.0 (keys_of es) sorted))

-- the entries of a tree are those of its map
pub entries-map_of : {X : Type 0} → (es : List (Name × X)) → IsStrictlySortedBy name_cmp (keys_of es) → entries (map_of es) ≡ es
entries-map_of es sorted = entries-from_entries es (sorted_from es sorted)

keys-map_of : {X : Type 0} → (es : List (Name × X)) → IsStrictlySortedBy name_cmp (keys_of es) → keys (map_of es) ≡ keys_of es
keys-map_of {X} es sorted = ap (map (λ (e : Name × X). e.0)) (entries-map_of es sorted)

abbrev pub first_key : {X : Type 0} → List (Name × X) → Option Name
first_key [] = None
first_key (e ∷ es) = Some e.0

find-filter : {X : Type 0} → (p q : Name → Bool) → ((n : Name) → q n ≡ p n) → (es : List (Name × X)) → find p (keys_of es) ≡ first_key (filter (λ e. q e.0) es)
find-filter p q same [] = refl
find-filter p q same (e ∷ es) =
    ap (λ b. cond b (Some e.0) (find p (keys_of es))) (sym (same e.0))
    ∙ elim (q e.0) as (λ b. cond b (Some e.0) (find p (keys_of es)) ≡ first_key (cond b (e ∷ filter (λ e. q e.0) es) (filter (λ e. q e.0) es))) [ true ↦ refl | false ↦ find-filter p q same es ]

turned : (o : Ordering) → (is_lt (ordering_reverse o) && true) ≡ is_gt o
turned Less = refl
turned Equal = refl
turned Greater = refl

-- the names in the range above one
behind : (after n : Name) → (is_lt (name_cmp after n) && true) ≡ is_behind (Some after) n
behind after n = ap (λ o. is_lt o && true) (names_total.antisymm after n) ∙ turned (name_cmp n after)

pub next_in_range : {X : Type 0} → (es range : List (Name × X)) (after : Name) → IsStrictlySortedBy name_cmp (keys_of es) → range ≡ filter (λ e. is_lt (name_cmp after e.0) && true) es → next_name (map_of es) (Some after) ≡ first_key range
next_in_range es range after sorted is =
    ap (find (is_behind (Some after))) (keys-map_of es sorted) ∙ find-filter (is_behind (Some after)) (λ n. is_lt (name_cmp after n) && true) (behind after) es ∙ ap first_key (sym is)

pub next_first : {X : Type 0} → (es : List (Name × X)) (k : Name) (ks : List Name) → IsStrictlySortedBy name_cmp (keys_of es) → keys_of es ≡ k ∷ ks → next_name (map_of es) None ≡ Some k
next_first es k ks sorted is = ap (find (is_behind None)) (keys-map_of es sorted ∙ is)

pub next_nothing : {X : Type 0} → (es : List (Name × X)) → IsStrictlySortedBy name_cmp (keys_of es) → keys_of es ≡ [] → next_name (map_of es) None ≡ None
next_nothing es sorted is = ap (find (is_behind None)) (keys-map_of es sorted ∙ is)

-- the size of a tree's map, as the weight of its entries
pub size-map_of : (es : List (Name × List ℕ)) → IsStrictlySortedBy name_cmp (keys_of es) → size (map_of es) ≡ weight es
unfolding size
size-map_of es sorted = ap weight (entries-map_of es sorted)
