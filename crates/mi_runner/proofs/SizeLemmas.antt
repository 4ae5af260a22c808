-- How long names become, and how much room they take.
use Rattle.std.proofs.Common.{◌≡◌, ◌≢◌, ⊎_elim, ℕ, zero, suc, ◌+◌, ◌-◌, ◌≤◌, ◌<◌, max, Bool, true, false, cond, ◌||◌, List, [], ◌∷◌, ◌++◌, length, take, get_or, refl, sym, ap, ◌∙◌, arith}
use Rattle.std.proofs.lemmas.List.{take_more}
use Rattle.std.specs.FinMap.{get, insert}
use Rattle.mi_text.specs.Maps.{Name, same_name, is_among, set_to}
use Rattle.mi_text.proofs.MapLemmas.{same_itself, from_same, get-set_to}
use Rattle.mi_volume.specs.Maps.{Map, size, slot_size}
use Rattle.mi_volume.proofs.MapLemmas.{name_cases, get-insert_same, get-insert_other}
use Rattle.mi_volume.proofs.SizeLemmas.{size-set_to, size-at_most}
use Rattle.mi_script.specs.declared.rec.Rec.{Rec}
use Rattle.mi_script.specs.Scripts.{name_at}
use Rattle.mi_undo.specs.Names.{is_inside}
use Rattle.mi_undo.specs.Stands.{outside}
use Rattle.mi_runner.specs.Sizes.{size_after, greatest, growth}
use Rattle.mi_runner.proofs.StepLemmas.{held_outside}

-- ---- the greatest size of a name

pub greatest-append : (xs ys : List Rec) (q : Name) → greatest (xs ++ ys) q ≡ max (greatest xs q) (greatest ys q)
greatest-append [] ys q = omega arith
greatest-append (x ∷ xs) ys q =
    elim (same_name q (name_at x)) as (λ b. cond b (max (size_after x) (greatest (xs ++ ys) q)) (greatest (xs ++ ys) q) ≡ max (cond b (max (size_after x) (greatest xs q)) (greatest xs q)) (greatest ys q)) [
      | true ↦ let rest = greatest-append xs ys q in omega (arith, rest)
      | false ↦ greatest-append xs ys q
    ]

pub greatest_one : (r : Rec) → greatest (r ∷ []) (name_at r) ≡ size_after r
greatest_one r = ap (λ b. cond b (max (size_after r) 0) 0) (same_itself (name_at r)) ∙ (let e : max (size_after r) 0 ≡ size_after r = omega arith in e)

pub next_is : (rs : List Rec) (k : ℕ) (r : Rec) → k < length rs → r ≡ get_or rs k r → take (k + 1) rs ≡ take k rs ++ r ∷ []
next_is rs k r below is = take_more rs k r below ∙ ap (λ (x : Rec). take k rs ++ x ∷ []) (sym is)

module _ (rs : List Rec) (k : ℕ) (r : Rec) (below : k < length rs) (is : r ≡ get_or rs k r) where
  more : (q : Name) → greatest (take (k + 1) rs) q ≡ max (greatest (take k rs) q) (greatest (r ∷ []) q)
  more q = ap (λ (l : List Rec). greatest l q) (next_is rs k r below is) ∙ greatest-append (take k rs) (r ∷ []) q

  pub greatest_before : (q : Name) → greatest (take k rs) q ≤ greatest (take (k + 1) rs) q
  greatest_before q = omega (arith, more q)

  pub greatest_here : size_after r ≤ greatest (take (k + 1) rs) (name_at r)
  greatest_here = omega (arith, more (name_at r), greatest_one r)

pub greatest_front : (rs : List Rec) (k : ℕ) (q : Name) → greatest (take k rs) q ≤ greatest rs q
greatest_front [] zero q = omega arith
greatest_front [] (suc k) q = omega arith
greatest_front (r ∷ rs) zero q = omega arith
greatest_front (r ∷ rs) (suc k) q =
    elim (same_name q (name_at r)) as (λ b. cond b (max (size_after r) (greatest (take k rs) q)) (greatest (take k rs) q) ≤ cond b (max (size_after r) (greatest rs q)) (greatest rs q)) [
      | true ↦ let rest = greatest_front rs k q in omega (arith, rest)
      | false ↦ greatest_front rs k q
    ]

-- ---- sizes of maps

-- Where other names than these count no more, and these no more than by what they grow, so does the map.
pub grown : (base : Map) (rs : List Rec) (names : List Name) (m0 m : Map) → ((q : Name) → is_among q names ≡ false → slot_size q (get m q) ≤ slot_size q (get m0 q))
    → ((q : Name) → is_among q names ≡ true → slot_size q (get m q) ≤ slot_size q (get m0 q) + (greatest rs q - slot_size q (get base q))) → size m ≤ size m0 + growth base rs names
grown base rs [] m0 m others each = let all = size-at_most m m0 (λ q. others q refl) in omega (arith, all)
grown base rs (n ∷ names) m0 m others each =
    let sum = size-set_to m n (get m0 n) in
    let rest = grown base rs names m0 (set_to m n (get m0 n))
    (λ q free. at q (same_name q n) refl (λ is. omega arith) (λ is. others q (ap (λ b. b || is_among q names) is ∙ free)))
    (λ q held. at_more q (same_name q n) refl (λ is. omega arith) (λ is. each q (ap (λ b. b || is_among q names) is ∙ held))) in
    let here = each n (ap (λ b. b || is_among n names) (same_itself n)) in
    omega (arith, sum, rest, here)
  where
    at : (q : Name) (b : Bool) → same_name q n ≡ b → (b ≡ true → slot_size q (get m0 q) ≤ slot_size q (get m0 q)) → (b ≡ false → slot_size q (get m q) ≤ slot_size q (get m0 q)) → slot_size q (get (set_to m n (get m0 n)) q) ≤ slot_size q (get m0 q)
    at q true is this that =
        let put : slot_size q (get (set_to m n (get m0 n)) q) ≡ slot_size q (get m0 q) = ap (slot_size q) (get-set_to m n (get m0 n) q ∙ ap (λ b. cond b (get m0 n) (get m q)) is ∙ ap (get m0) (sym (from_same q n is))) in
        omega (arith, put)
    at q false is this that =
        let put : slot_size q (get (set_to m n (get m0 n)) q) ≡ slot_size q (get m q) = ap (slot_size q) (get-set_to m n (get m0 n) q ∙ ap (λ b. cond b (get m0 n) (get m q)) is) in
        omega (arith, put, that refl)

    at_more : (q : Name) (b : Bool) → same_name q n ≡ b → (b ≡ true → slot_size q (get m0 q) ≤ slot_size q (get m0 q)) → (b ≡ false → slot_size q (get m q) ≤ slot_size q (get m0 q) + (greatest rs q - slot_size q (get base q)))
        → slot_size q (get (set_to m n (get m0 n)) q) ≤ slot_size q (get m0 q) + (greatest rs q - slot_size q (get base q))
    at_more q true is this that =
        let put : slot_size q (get (set_to m n (get m0 n)) q) ≡ slot_size q (get m0 q) = ap (slot_size q) (get-set_to m n (get m0 n) q ∙ ap (λ b. cond b (get m0 n) (get m q)) is ∙ ap (get m0) (sym (from_same q n is))) in
        omega (arith, put)
    at_more q false is this that =
        let put : slot_size q (get (set_to m n (get m0 n)) q) ≡ slot_size q (get m q) = ap (slot_size q) (get-set_to m n (get m0 n) q ∙ ap (λ b. cond b (get m0 n) (get m q)) is) in
        omega (arith, put, that refl)

-- A map in which one touched name is given bytes, no more than it has after a record, is no larger than the former one and what the names grow.
pub room_for : (m0 m : Map) (rs : List Rec) (names : List Name) (x bytes : List ℕ) → ((q : Name) → is_among q names ≡ false → get m q ≡ get m0 q) → ((q : Name) → slot_size q (get m q) ≤ max (slot_size q (get m0 q)) (greatest rs q))
    → ((q : Name) → is_among q names ≡ true → is_inside q ≡ false) → is_among x names ≡ true → length x + length bytes ≤ greatest rs x → size (insert m x bytes) ≤ size m0 + growth (outside m0) rs names
room_for m0 m rs names x bytes others longest out among small = grown (outside m0) rs names m0 (insert m x bytes) (λ q free. ⊎_elim (λ e. absurd (clash q free e)) (λ ne. away q free ne) (name_cases q x)) (λ q held. ⊎_elim (λ e. here q held e) (λ ne. there q held ne) (name_cases q x))
  where
    clash : (q : Name) → is_among q names ≡ false → q ≡ x → ⊥
    clash q free e = let both : true ≡ false = sym among ∙ ap (λ (y : Name). is_among y names) (sym e) ∙ free in cc

    away : (q : Name) → is_among q names ≡ false → q ≢ x → slot_size q (get (insert m x bytes) q) ≤ slot_size q (get m0 q)
    away q free ne = let is : slot_size q (get (insert m x bytes) q) ≡ slot_size q (get m0 q) = ap (slot_size q) (get-insert_other m x bytes q ne ∙ others q free) in omega (arith, is)

    base : (q : Name) → is_among q names ≡ true → slot_size q (get (outside m0) q) ≡ slot_size q (get m0 q)
    base q held = ap (slot_size q) (sym (held_outside m0 q (out q held)))

    here : (q : Name) → is_among q names ≡ true → q ≡ x → slot_size q (get (insert m x bytes) q) ≤ slot_size q (get m0 q) + (greatest rs q - slot_size q (get (outside m0) q))
    here q held e =
        let is : slot_size q (get (insert m x bytes) q) ≡ length x + length bytes = ap (λ (y : Name). slot_size y (get (insert m x bytes) y)) e ∙ ap (slot_size x) (get-insert_same m x bytes) in
        let most : greatest rs q ≡ greatest rs x = ap (greatest rs) e in
        omega (arith, is, most, base q held, small)

    there : (q : Name) → is_among q names ≡ true → q ≢ x → slot_size q (get (insert m x bytes) q) ≤ slot_size q (get m0 q) + (greatest rs q - slot_size q (get (outside m0) q))
    there q held ne =
        let is : slot_size q (get (insert m x bytes) q) ≡ slot_size q (get m q) = ap (slot_size q) (get-insert_other m x bytes q ne) in
        omega (arith, is, base q held, longest q)
