-- The names that records change, as a set gives them in order.
use Rattle.std.proofs.Common.{◌≡◌, ℕ, ◌+◌, ◌<◌, Bool, true, false, cond, T, ◌&&◌, ◌||◌, List, [], ◌∷◌, ◌++◌, map, length, take, get_or, Some, None, refl, sym, ap, subst, ◌∙◌}
use Rattle.std.specs.List.{AllByRecursion}
use Rattle.std.specs.List.Sorted.{IsStrictlySortedBy}
use Rattle.std.specs.Ordering.{is_eq, is_lt, ordering_reverse}
use Rattle.std.specs.declared.cmp.Ordering.{Ordering}
use Rattle.std.specs.declared.cmp.Ordering.TheVariants.{Less, Equal, Greater}
use Rattle.std.specs.BTreeSet.{BTreeSet, contains, Updates, IsOrdered}
use Rattle.std.specs.FinMap.{keys, from_entries, is_sorted, find, get-from_entries}
use Rattle.std.specs.FinMap.Entries.{below_all}
use Rattle.std.proofs.lemmas.Map.Keys.{sorted_head, sorted_tail}
use Rattle.std.proofs.lemmas.List.{take_more, map-append}
use Rattle.mi_text.specs.Maps.{Name, name_cmp, same_name, is_among, tabulated}
use Rattle.mi_text.proofs.MapLemmas.{names_total, from_same, same, get-tabulated, is_among-append, entries-from_entries}
use Rattle.mi_script.specs.declared.rec.Rec.{Rec}
use Rattle.mi_script.specs.Scripts.{name_at, touched_names}

turned : (a b : Ordering) → a ≡ ordering_reverse b → is_eq b ≡ is_eq a
turned a Less e = sym (ap is_eq e)
turned a Equal e = sym (ap is_eq e)
turned a Greater e = sym (ap is_eq e)

one_of : (b c : Bool) → cond b true c ≡ (c || (b || false))
one_of true true = refl
one_of true false = refl
one_of false true = refl
one_of false false = refl

-- one name more
pub one_more : (old new : BTreeSet Name) (k : Name) (names : List Name) → Updates name_cmp old new k true → ((q : Name) → contains name_cmp old q ≡ is_among q names)
    → (q : Name) → contains name_cmp new q ≡ is_among q (names ++ k ∷ [])
one_more old new k names u so_far q =
    u.0 q ∙ ap (λ (b : Bool). cond b true (contains name_cmp old q)) (turned (name_cmp q k) (name_cmp k q) (names_total.antisymm q k))
    ∙ one_of (same_name q k) (contains name_cmp old q) ∙ ap (λ (b : Bool). b || (same_name q k || false)) (so_far q)
    ∙ sym (is_among-append q names (k ∷ []))

-- the name of one record more
pub one_record : (old new : BTreeSet Name) (recs : List Rec) (k : ℕ) (r : Rec) (name : Name) → k < length recs → r ≡ get_or recs k r → name ≡ name_at r → Updates name_cmp old new name true
    → ((q : Name) → contains name_cmp old q ≡ is_among q (map name_at (take k recs))) → (q : Name) → contains name_cmp new q ≡ is_among q (map name_at (take (k + 1) recs))
one_record old new recs k r name lt is named u so_far q =
    one_more old new name (map name_at (take k recs)) u so_far q
    ∙ ap (is_among q) (ap (λ (n : Name). map name_at (take k recs) ++ n ∷ []) named ∙ sym (ap (map name_at) (take_more recs k r lt ∙ ap (λ (x : Rec). take k recs ++ x ∷ []) (sym is)) ∙ map-append name_at (take k recs) (r ∷ [])))

abbrev twice : Name → Name × Name
twice n = (n, n)

below : (k : Name) (ns : List Name) → AllByRecursion (λ n. name_cmp k n ≡ Less) ns → T (below_all name_cmp k (map twice ns))
below k [] all = tt
below k (n ∷ ns) all = subst (λ o. T (is_lt o && below_all name_cmp k (map twice ns))) (sym all.0) (below k ns all.1)

in_order : (ns : List Name) → IsStrictlySortedBy name_cmp ns → T (is_sorted name_cmp (map twice ns))
in_order [] sorted = tt
in_order (n ∷ ns) sorted = both _ _ (below n ns (sorted_head name_cmp n ns sorted)) (in_order ns (sorted_tail name_cmp n ns sorted))
  where
    both : (a b : Bool) → T a → T b → T (a && b)
    both true b p q = q
    both false b p q = absurd p

firsts : (ns : List Name) → map (λ (e : Name × Name). e.0) (map twice ns) ≡ ns
firsts [] = refl
firsts (n ∷ ns) = ap (λ (rest : List Name). n ∷ rest) (firsts ns)

found : (ns : List Name) (q : Name) → find name_cmp q (map twice ns) ≡ cond (is_among q ns) (Some q) None
found [] q = refl
found (n ∷ ns) q =
    elim (same_name q n) as (λ b. same_name q n ≡ b → cond b (Some n) (find name_cmp q (map twice ns)) ≡ cond (b || is_among q ns) (Some q) None) [
      | true ↦ λ e. ap (λ (x : Name). Some x) (sym (from_same q n e))
      | false ↦ λ e. found ns q
    ] refl

-- names in order, each once, are the keys of the map that has them
pub in_order_are : (ns others : List Name) → IsStrictlySortedBy name_cmp ns → ((q : Name) → is_among q ns ≡ is_among q others) → ns ≡ keys (tabulated (λ n. Some n) others)
in_order_are ns others sorted alike =
    sym (firsts ns) ∙ ap (map (λ (e : Name × Name). e.0)) (sym (entries-from_entries (map twice ns) (in_order ns sorted)))
    ∙ ap keys (same (from_entries (map twice ns)) (tabulated (λ n. Some n) others) (λ q.
    get-from_entries names_total (map twice ns) q ∙ found ns q ∙ ap (λ (b : Bool). cond b (Some q) None) (alike q) ∙ sym (get-tabulated (λ n. Some n) others q)))

-- the keys of a set of the records' names are the names that they touch
pub set_gives : (s : BTreeSet Name) (recs : List Rec) → IsOrdered name_cmp s → ((q : Name) → contains name_cmp s q ≡ is_among q (map name_at recs)) → s.keys ≡ touched_names recs
unfolding touched_names
set_gives s recs ordered alike = in_order_are s.keys (map name_at recs) ordered alike
