-- The size of a map after a change.
use Rattle.std.proofs.Common.{◌≡◌, ◌≢◌, ⊎_elim, ℕ, ◌+◌, ◌-◌, ◌^◌, ◌≤◌, min, Bool, true, false, cond, ◌&&◌, List, [], ◌∷◌, ◌++◌, length, length-append, Option, Some, None, T, refl, sym, ap, subst, ◌∙◌, arith}
use Rattle.std.specs.Ordering.{nat_cmp, is_eq, is_lt}
use Rattle.std.specs.declared.cmp.Ordering.{Ordering}
use Rattle.std.specs.declared.cmp.Ordering.TheVariants.{Less, Equal, Greater}
use Rattle.std.specs.Cmp.Lexicographic.{slice_cmp, nat_list_cmp_total}
use Rattle.std.specs.FinMap.{get, insert, remove, entries, entries_sorted, entries-insert, get-entries}
use Rattle.std.specs.FinMap.Entries.{put, find, is_sorted, below_all, by_order}
use Rattle.mi_text.specs.Maps.{same_name, set_to}
use Rattle.mi_text.proofs.MapLemmas.{names_exact, same_itself, same, get-set_to}
use Rattle.mi_volume.proofs.MapLemmas.{get-remove_same, get-remove_other, name_cases, same_name-other}
use Rattle.mi_volume.specs.Maps.{Map, size, weight, slot_size}

abbrev Pairs : Type 0
Pairs = List (List ℕ × List ℕ)

abbrev order : List ℕ → List ℕ → Ordering
order = slice_cmp nat_cmp

both_parts : (a b : Bool) → T (a && b) → T a × T b
both_parts true b p = (tt, p)
both_parts false b p = absurd p

is_less : (o : Ordering) → T (is_lt o) → o ≡ Less
is_less Less p = refl
is_less Equal p = absurd p
is_less Greater p = absurd p

missing : (k : List ℕ) (es : Pairs) → T (below_all order k es) → find order k es ≡ None
missing k [] below = refl
missing k (e ∷ es) below =
    let parts = both_parts (is_lt (order k e.0)) (below_all order k es) below in
    ap (λ (o : Ordering). cond (is_eq o) (Some e.1) (find order k es)) (is_less _ parts.0) ∙ missing k es parts.1

below_before : (x y : List ℕ) (es : Pairs) → order x y ≡ Less → T (below_all order y es) → T (below_all order x es)
below_before x y [] less below = tt
below_before x y (e ∷ es) less below =
    let parts = both_parts (is_lt (order y e.0)) (below_all order y es) below in
    let here : order x e.0 ≡ Less = nat_list_cmp_total.trans x y e.0 less (is_less _ parts.0) in
    subst (λ (o : Ordering). T (is_lt o && below_all order x es)) (sym here) (below_before x y es less parts.1)

size_put : (k v : List ℕ) (es : Pairs) → T (is_sorted order es) → weight (put order k v es) + slot_size k (find order k es) ≡ weight es + (length k + length v)
size_put k v [] sorted = omega arith
size_put k v (e ∷ es) sorted =
    let parts = both_parts (below_all order e.0 es) (is_sorted order es) sorted in
    elim (order k e.0) as (λ o. order k e.0 ≡ o → weight (by_order o ((k, v) ∷ e ∷ es) ((e.0, v) ∷ es) (e ∷ put order k v es)) + slot_size k (cond (is_eq o) (Some e.1) (find order k es)) ≡ length e.0 + length e.1 + weight es + (length k + length v)) [
      | Less ↦ λ less.
          let none : slot_size k (find order k es) ≡ 0 = ap (slot_size k) (missing k es (below_before k e.0 es less parts.0)) in
          let here : length k + length v + (length e.0 + length e.1 + weight es) + slot_size k (find order k es) ≡ length e.0 + length e.1 + weight es + (length k + length v) = omega arith in
          here
      | Equal ↦ λ same.
          let key : length k ≡ length e.0 = ap length (names_exact k e.0 same) in
          let here : length e.0 + length v + weight es + (length k + length e.1) ≡ length e.0 + length e.1 + weight es + (length k + length v) = omega arith in
          here
      | Greater ↦ λ more.
          let rest = size_put k v es parts.1 in
          let here : length e.0 + length e.1 + weight (put order k v es) + slot_size k (find order k es) ≡ length e.0 + length e.1 + weight es + (length k + length v) = omega (arith, rest) in
          here
    ] refl

pub size-insert : (m : Map) (n b : List ℕ) → size (insert m n b) + slot_size n (get m n) ≡ size m + (length n + length b)
unfolding size
size-insert m n b =
    let old : slot_size n (get m n) ≡ slot_size n (find order n (entries m)) = ap (slot_size n) (get-entries m n) in
    let new : weight (entries (insert m n b)) ≡ weight (put order n b (entries m)) = ap (λ (es : Pairs). weight es) (entries-insert nat_list_cmp_total m n b) in
    omega (arith, size_put n b (entries m) (entries_sorted m))

pub size-remove : (m : Map) (n : List ℕ) → size (remove m n) + slot_size n (get m n) ≡ size m
size-remove m n = by_held (get m n) refl
  where
    put_back : (o : Option (List ℕ)) → get m n ≡ o → set_to (remove m n) n o ≡ m
    put_back o at = same _ _ (λ q. ⊎_elim (λ is. back q o at is) (λ other. get-set_to (remove m n) n o q ∙ ap (λ b. cond b o (get (remove m n) q)) (same_name-other q n other) ∙ get-remove_other m n q other) (name_cases q n))
      where
        back : (q : List ℕ) (o : Option (List ℕ)) → get m n ≡ o → q ≡ n → get (set_to (remove m n) n o) q ≡ get m q
        back q o at is = get-set_to (remove m n) n o q ∙ ap (λ (x : List ℕ). cond (same_name x n) o (get (remove m n) x)) is ∙ ap (λ b. cond b o (get (remove m n) n)) (same_itself n) ∙ sym at ∙ ap (get m) (sym is)

    by_held : (o : Option (List ℕ)) → get m n ≡ o → size (remove m n) + slot_size n o ≡ size m
    by_held None at =
        let gone : size (remove m n) ≡ size m = ap size (same (remove m n) m (λ q. ⊎_elim (λ is. ap (get (remove m n)) is ∙ get-remove_same m n ∙ sym (ap (get m) is ∙ at)) (λ other. get-remove_other m n q other) (name_cases q n))) in
        omega arith
    by_held (Some b) at =
        let sum = size-insert (remove m n) n b in
        let whole : size (insert (remove m n) n b) ≡ size m = ap size (put_back (Some b) at) in
        let none : slot_size n (get (remove m n) n) ≡ 0 = ap (slot_size n) (get-remove_same m n) in
        omega (arith, sum)

-- a size after a change at one name
pub size-set_to : (m : Map) (n : List ℕ) (o : Option (List ℕ)) → size (set_to m n o) + slot_size n (get m n) ≡ size m + slot_size n o
size-set_to m n None = let sum = size-remove m n in omega (arith, sum)
size-set_to m n (Some b) = size-insert m n b

pub size-new : (m : Map) (n b : List ℕ) → get m n ≡ None → size (insert m n b) ≡ size m + (length n + length b)
size-new m n b none =
    let nothing : slot_size n (get m n) ≡ 0 = ap (slot_size n) none in
    let sum = size-insert m n b in
    omega (arith, sum, nothing)

-- a size after bytes are added at the end of a name
pub size-more : (m : Map) (n old more : List ℕ) → get m n ≡ Some old → size (insert m n (old ++ more)) ≡ size m + length more
size-more m n old more at =
    let before : slot_size n (get m n) ≡ length n + length old = ap (slot_size n) at in
    let sum = size-insert m n (old ++ more) in
    let long = length-append old more in
    omega (arith, sum, before, long)

weight_at_most : (es : Pairs) (k : Map) → T (is_sorted order es) → ((q : List ℕ) → slot_size q (find order q es) ≤ slot_size q (get k q)) → weight es ≤ size k
weight_at_most [] k sorted each = omega arith
weight_at_most (e ∷ es) k sorted each =
    let parts = both_parts (below_all order e.0 es) (is_sorted order es) sorted in
    let here : length e.0 + length e.1 ≤ slot_size e.0 (get k e.0) = subst (λ b. slot_size e.0 (cond b (Some e.1) (find order e.0 es)) ≤ slot_size e.0 (get k e.0)) (same_itself e.0) (each e.0) in
    let rest = weight_at_most es (remove k e.0) parts.1 (λ q. ⊎_elim (λ is. gone q parts.0 is) (λ other. kept q other) (name_cases q e.0)) in
    let sum = size-remove k e.0 in
    let all : length e.0 + length e.1 + weight es ≤ size k = omega (arith, here, rest, sum) in
    all
  where
    gone : (q : List ℕ) → T (below_all order e.0 es) → q ≡ e.0 → slot_size q (find order q es) ≤ slot_size q (get (remove k e.0) q)
    gone q below is = let none : slot_size q (find order q es) ≡ 0 = ap (λ (x : List ℕ). slot_size q (find order x es)) is ∙ ap (slot_size q) (missing e.0 es below) in omega (arith, none)

    kept : (q : List ℕ) → q ≢ e.0 → slot_size q (find order q es) ≤ slot_size q (get (remove k e.0) q)
    kept q other =
        let was : slot_size q (find order q (e ∷ es)) ≡ slot_size q (find order q es) = ap (λ b. slot_size q (cond b (Some e.1) (find order q es))) (same_name-other q e.0 other) in
        let still : slot_size q (get (remove k e.0) q) ≡ slot_size q (get k q) = ap (slot_size q) (get-remove_other k e.0 q other) in
        omega (arith, each q, was, still)

-- where each name counts no more, the size is no more
pub size-at_most : (m k : Map) → ((q : List ℕ) → slot_size q (get m q) ≤ slot_size q (get k q)) → size m ≤ size k
unfolding size
size-at_most m k each = weight_at_most (entries m) k (entries_sorted m) (λ q. subst (λ o. slot_size q o ≤ slot_size q (get k q)) (get-entries m q) (each q))

weight_within : (es : Pairs) (a b : Map) → T (is_sorted order es) → ((q : List ℕ) → slot_size q (find order q es) ≤ slot_size q (get a q) + slot_size q (get b q)) → weight es ≤ size a + size b
weight_within [] a b sorted each = omega arith
weight_within (e ∷ es) a b sorted each =
    let parts = both_parts (below_all order e.0 es) (is_sorted order es) sorted in
    let here : length e.0 + length e.1 ≤ slot_size e.0 (get a e.0) + slot_size e.0 (get b e.0) =
    subst (λ c. slot_size e.0 (cond c (Some e.1) (find order e.0 es)) ≤ slot_size e.0 (get a e.0) + slot_size e.0 (get b e.0)) (same_itself e.0) (each e.0) in
    let rest = weight_within es (remove a e.0) (remove b e.0) parts.1 (λ q. ⊎_elim (λ is. gone q parts.0 is) (λ other. kept q other) (name_cases q e.0)) in
    let one = size-remove a e.0 in
    let two = size-remove b e.0 in
    let all : length e.0 + length e.1 + weight es ≤ size a + size b = omega (arith, here, rest, one, two) in
    all
  where
    gone : (q : List ℕ) → T (below_all order e.0 es) → q ≡ e.0 → slot_size q (find order q es) ≤ slot_size q (get (remove a e.0) q) + slot_size q (get (remove b e.0) q)
    gone q below is = let none : slot_size q (find order q es) ≡ 0 = ap (λ (x : List ℕ). slot_size q (find order x es)) is ∙ ap (slot_size q) (missing e.0 es below) in omega (arith, none)

    kept : (q : List ℕ) → q ≢ e.0 → slot_size q (find order q es) ≤ slot_size q (get (remove a e.0) q) + slot_size q (get (remove b e.0) q)
    kept q other =
        let was : slot_size q (find order q (e ∷ es)) ≡ slot_size q (find order q es) = ap (λ b. slot_size q (cond b (Some e.1) (find order q es))) (same_name-other q e.0 other) in
        let one : slot_size q (get (remove a e.0) q) ≡ slot_size q (get a q) = ap (slot_size q) (get-remove_other a e.0 q other) in
        let two : slot_size q (get (remove b e.0) q) ≡ slot_size q (get b q) = ap (slot_size q) (get-remove_other b e.0 q other) in
        omega (arith, each q, was, one, two)

-- where each name counts no more than in two maps together, the size is no more than theirs
pub size-within : (m a b : Map) → ((q : List ℕ) → slot_size q (get m q) ≤ slot_size q (get a q) + slot_size q (get b q)) → size m ≤ size a + size b
unfolding size
size-within m a b each = weight_within (entries m) a b (entries_sorted m) (λ q. subst (λ o. slot_size q o ≤ slot_size q (get a q) + slot_size q (get b q)) (get-entries m q) (each q))

weight_over : (es : Pairs) (b m : Map) → T (is_sorted order es) → ((q : List ℕ) → slot_size q (find order q es) + slot_size q (get b q) ≤ slot_size q (get m q)) → weight es + size b ≤ size m
weight_over [] b m sorted each = let all = size-at_most b m (λ q. omega (arith, each q)) in omega (arith, all)
weight_over (e ∷ es) b m sorted each =
    let parts = both_parts (below_all order e.0 es) (is_sorted order es) sorted in
    let here : length e.0 + length e.1 + slot_size e.0 (get b e.0) ≤ slot_size e.0 (get m e.0) =
    subst (λ c. slot_size e.0 (cond c (Some e.1) (find order e.0 es)) + slot_size e.0 (get b e.0) ≤ slot_size e.0 (get m e.0)) (same_itself e.0) (each e.0) in
    let rest = weight_over es (remove b e.0) (remove m e.0) parts.1 (λ q. ⊎_elim (λ is. gone q parts.0 is) (λ other. kept q other) (name_cases q e.0)) in
    let one = size-remove b e.0 in
    let two = size-remove m e.0 in
    let all : length e.0 + length e.1 + weight es + size b ≤ size m = omega (arith, here, rest, one, two) in
    all
  where
    gone : (q : List ℕ) → T (below_all order e.0 es) → q ≡ e.0 → slot_size q (find order q es) + slot_size q (get (remove b e.0) q) ≤ slot_size q (get (remove m e.0) q)
    gone q below is =
        let none : slot_size q (find order q es) ≡ 0 = ap (λ (x : List ℕ). slot_size q (find order x es)) is ∙ ap (slot_size q) (missing e.0 es below) in
        let away : slot_size q (get (remove b e.0) q) ≡ 0 = ap (λ (x : List ℕ). slot_size q (get (remove b e.0) x)) is ∙ ap (slot_size q) (get-remove_same b e.0) in
        omega (arith, none, away)

    kept : (q : List ℕ) → q ≢ e.0 → slot_size q (find order q es) + slot_size q (get (remove b e.0) q) ≤ slot_size q (get (remove m e.0) q)
    kept q other =
        let was : slot_size q (find order q (e ∷ es)) ≡ slot_size q (find order q es) = ap (λ b. slot_size q (cond b (Some e.1) (find order q es))) (same_name-other q e.0 other) in
        let one : slot_size q (get (remove b e.0) q) ≡ slot_size q (get b q) = ap (slot_size q) (get-remove_other b e.0 q other) in
        let two : slot_size q (get (remove m e.0) q) ≡ slot_size q (get m q) = ap (slot_size q) (get-remove_other m e.0 q other) in
        omega (arith, each q, was, one, two)

-- where each name counts no less than in two maps together, the size is no less than theirs
pub size-over : (a b m : Map) → ((q : List ℕ) → slot_size q (get a q) + slot_size q (get b q) ≤ slot_size q (get m q)) → size a + size b ≤ size m
unfolding size
size-over a b m each = weight_over (entries a) b m (entries_sorted a) (λ q. subst (λ o. slot_size q o + slot_size q (get b q) ≤ slot_size q (get m q)) (get-entries a q) (each q))

-- a sum that stands still at the greatest u64, over the entries up to the rest
pub record Summing (all rest : Pairs) (sum : ℕ) : Type 0 where
  pub so_far : ℕ
  pub is : sum ≡ min so_far (2 ^ 64 - 1)
  pub left : so_far + weight rest ≡ weight all

pub sum_starts : (all : Pairs) → Summing all all 0
sum_starts all = record { so_far = 0; is = omega arith; left = omega arith }

pub sum_goes_on : (all rest : Pairs) (name bytes : List ℕ) (sum more next : ℕ) → Summing all ((name, bytes) ∷ rest) sum → more ≡ min (length name + length bytes) (2 ^ 64 - 1) → next ≡ min (sum + more) (2 ^ 64 - 1) → Summing all rest next
sum_goes_on all rest name bytes sum more next summing is_more is_next =
    let is = summing.is in
    let left : summing.so_far + (length name + length bytes + weight rest) ≡ weight all = summing.left in
    record { so_far = summing.so_far + (length name + length bytes); is = omega (arith, is, is_more, is_next); left = omega (arith, left) }

pub sum_ends : (all rest : Pairs) (sum : ℕ) → Summing all rest sum → rest ≡ [] → sum ≡ min (weight all) (2 ^ 64 - 1)
sum_ends all rest sum summing ended =
    let is = summing.is in
    let left = summing.left in
    let none : weight rest ≡ 0 = ap weight ended in
    omega (arith, is, left, none)
