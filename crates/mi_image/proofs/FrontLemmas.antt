-- The names of the values of a key and of the keys below it, one length of a key after another.
use Rattle.std.proofs.Common.{◌≡◌, ℕ, zero, suc, ◌+◌, ◌-◌, ◌*◌, ◌/◌, ◌%◌, ◌<◌, ◌≤◌, Bool, true, false, cond, ◌||◌, ◌⊎◌, inl, inr, ⊎_elim, List, [], ◌∷◌, ◌++◌, drop, length, refl, sym, ap, subst, ◌∙◌, arith}
use Rattle.std.specs.Prelude.{filter, nat_eq}
use Rattle.std.specs.List.{starts_with}
use Rattle.std.specs.Ordering.{nat_cmp, ordering_then, is_le, is_lt}
use Rattle.std.specs.declared.cmp.Ordering.{Ordering}
use Rattle.std.specs.declared.cmp.Ordering.TheVariants.{Less, Equal, Greater}
use Rattle.std.specs.Cmp.{tied_itself}
use Rattle.std.proofs.lemmas.Cmp.{nat_cmp_total}
use Rattle.std.specs.FinMap.{is_sorted, nat_cmp-IsAntisymmetric}
use Rattle.std.specs.FinMap.Entries.{below_all}
use Rattle.mi_text.proofs.ByteLemmas.{both}
use Rattle.mi_text.proofs.MapLemmas.{names_total}
use Rattle.mi_text.specs.Maps.{Name, name_cmp}
use Rattle.mi_base.specs.Names.{digit, four_digits}
use Rattle.mi_image.specs.Fronts.{value_front, begins_within}
use Rattle.mi_image.proofs.PrefixLemmas.{starts_is, starts_append}
use Rattle.mi_image.proofs.RankLemmas.{less_is}

-- ---- lengths rise with the names

first_up : (x y : ℕ) (o : Ordering) → is_le (ordering_then (nat_cmp x y) o) ≡ true → (x < y) ⊎ ((x ≡ y) × (is_le o ≡ true))
first_up x y o up = elim (nat_cmp x y) as (λ c. nat_cmp x y ≡ c → is_le (ordering_then c o) ≡ true → (x < y) ⊎ ((x ≡ y) × (is_le o ≡ true))) [
  | Less ↦ λ is rest. inl (less_is x y is)
  | Equal ↦ λ is rest. inr (nat_cmp-IsAntisymmetric x y is, rest)
  | Greater ↦ λ is rest. absurd cc
] refl up

digits_are : (n : ℕ) → n < 10000 → n ≡ 1000 * (n / 1000 % 10) + 100 * (n / 100 % 10) + 10 * (n / 10 % 10) + n % 10
digits_are n small = omega arith

-- four digits in order spell numbers in order
digits_up : (a b c d x y z w : ℕ) (r s : List ℕ) → b < 10 → c < 10 → d < 10 → y < 10 → z < 10 → w < 10
    → is_le (name_cmp (digit a ∷ digit b ∷ digit c ∷ digit d ∷ r) (digit x ∷ digit y ∷ digit z ∷ digit w ∷ s)) ≡ true
    → 1000 * a + 100 * b + 10 * c + d ≤ 1000 * x + 100 * y + 10 * z + w
digits_up a b c d x y z w r s lb lc ld ly lz lw up =
    ⊎_elim (λ first. omega (arith, first, lb, lc, ld)) (λ first. ⊎_elim (λ second. omega (arith, first.0, second, lc, ld)) (λ second. ⊎_elim (λ third. omega (arith, first.0, second.0, third, ld)) (λ third. ⊎_elim (λ fourth. omega (arith, first.0, second.0, third.0, fourth)) (λ fourth. omega (arith, first.0, second.0, third.0, fourth.0))
    (first_up (digit d) (digit w) (name_cmp r s) third.1))
    (first_up (digit c) (digit z) (name_cmp (digit d ∷ r) (digit w ∷ s)) second.1))
    (first_up (digit b) (digit y) (name_cmp (digit c ∷ digit d ∷ r) (digit z ∷ digit w ∷ s)) first.1))
    (first_up (digit a) (digit x) (name_cmp (digit b ∷ digit c ∷ digit d ∷ r) (digit y ∷ digit z ∷ digit w ∷ s)) up)

below_ten : (n : ℕ) → n % 10 < 10
below_ten n = omega arith

pub lengths_up : (root n m : ℕ) (r s : List ℕ) → n < 10000 → m < 10000 → is_le (name_cmp (value_front root n r) (value_front root m s)) ≡ true → n ≤ m
lengths_up root n m r s small_n small_m up =
    let behind : is_le (name_cmp (four_digits n ++ r) (four_digits m ++ s)) ≡ true =
    ap (λ (o : Ordering). is_le (ordering_then o (name_cmp (four_digits n ++ r) (four_digits m ++ s)))) (sym (tied_itself nat_cmp_total (digit root))) ∙ up in
    let spelled = digits_up (n / 1000 % 10) (n / 100 % 10) (n / 10 % 10) (n % 10) (m / 1000 % 10) (m / 100 % 10) (m / 10 % 10) (m % 10) r s (below_ten (n / 100)) (below_ten (n / 10)) (below_ten n) (below_ten (m / 100)) (below_ten (m / 10)) (below_ten m) behind in
    omega (arith, digits_are n small_n, digits_are m small_m, spelled)

-- ---- two tests of names, of which one passes before the other

le_from_lt : (o : Ordering) → is_lt o ≡ true → is_le o ≡ true
le_from_lt Less is = refl
le_from_lt Equal is = refl
le_from_lt Greater is = is

module _ {X : Type 0} (p r : Name → Bool) (before : (x y : Name) → is_le (name_cmp x y) ≡ true → r x ≡ true → p y ≡ true → ⊥) where
  abbrev passing : (Name → Bool) → List (Name × X) → List (Name × X)
  passing t es = filter (λ e. t e.0) es

  none_behind : (x : Name) (es : List (Name × X)) → r x ≡ true → below_all name_cmp x es ≡ true → passing p es ≡ []
  none_behind x [] is low = refl
  none_behind x (e ∷ es) is low =
      let parts = both (is_lt (name_cmp x e.0)) (below_all name_cmp x es) low in
      elim (p e.0) as (λ b. p e.0 ≡ b → cond b (e ∷ passing p es) (passing p es) ≡ []) [
        | true ↦ λ b. absurd (before x e.0 (le_from_lt (name_cmp x e.0) parts.0) is b)
        | false ↦ λ b. none_behind x es is parts.1
      ] refl

  -- those that pass either are those that pass the one, and then those that pass the other
  pub either_test : (es : List (Name × X)) → is_sorted name_cmp es ≡ true → passing (λ q. p q || r q) es ≡ passing p es ++ passing r es
  either_test [] sorted = refl
  either_test (e ∷ es) sorted =
      let parts = both (below_all name_cmp e.0 es) (is_sorted name_cmp es) sorted in
      let rest = either_test es parts.1 in
      elim (p e.0) as (λ b. p e.0 ≡ b → cond (b || r e.0) (e ∷ passing (λ q. p q || r q) es) (passing (λ q. p q || r q) es) ≡ cond b (e ∷ passing p es) (passing p es) ++ passing r (e ∷ es)) [
        | true ↦ λ b. elim (r e.0) as (λ t. r e.0 ≡ t → e ∷ passing (λ q. p q || r q) es ≡ e ∷ passing p es ++ cond t (e ∷ passing r es) (passing r es)) [
          | true ↦ λ t. absurd (before e.0 e.0 (ap is_le (tied_itself names_total e.0)) t b)
          | false ↦ λ t. ap (λ (xs : List (Name × X)). e ∷ xs) rest
        ] refl
        | false ↦ λ b. elim (r e.0) as (λ t. r e.0 ≡ t → cond t (e ∷ passing (λ q. p q || r q) es) (passing (λ q. p q || r q) es) ≡ passing p es ++ cond t (e ∷ passing r es) (passing r es)) [
          | true ↦ λ t. let none = none_behind e.0 es t parts.0 in ap (λ (xs : List (Name × X)). e ∷ xs) (rest ∙ ap (λ (xs : List (Name × X)). xs ++ passing r es) none) ∙ sym (ap (λ (xs : List (Name × X)). xs ++ e ∷ passing r es) none)
          | false ↦ λ t. rest
        ] refl
      ] refl

-- ---- one length more

record Fronted (root most : ℕ) (q : Name) : Type 0 where
  size : ℕ
  rest : List ℕ
  within : size ≤ most
  is : q ≡ value_front root size rest

fronted : (root : ℕ) (key front : List ℕ) (n : ℕ) (q : Name) → begins_within root key front n q ≡ true → Fronted root (length key + n) q
unfolding begins_within
fronted root key front zero q is = record { size = length key; rest = key ++ drop (length (value_front root (length key) key)) q; within = omega arith; is = starts_is q (value_front root (length key) key) is }
fronted root key front (suc n) q is = elim (begins_within root key front n q) as (λ b. begins_within root key front n q ≡ b → (b || starts_with nat_eq q (value_front root (length key + suc n) front)) ≡ true → Fronted root (length key + suc n) q) [
  | true ↦ λ b h. let f = fronted root key front n q b in record { size = f.size; rest = f.rest; within = omega (arith, f.within); is = f.is }
  | false ↦ λ b h. record { size = length key + suc n; rest = front ++ drop (length (value_front root (length key + suc n) front)) q; within = omega arith; is = starts_is q (value_front root (length key + suc n) front) h }
] refl is

-- the names of one length of a key come behind those of the lesser
behind_all : (root : ℕ) (key front : List ℕ) (n : ℕ) → length key + suc n < 10000 → (x y : Name) → is_le (name_cmp x y) ≡ true → starts_with nat_eq x (value_front root (length key + suc n) front) ≡ true → begins_within root key front n y ≡ true → ⊥
behind_all root key front n small x y up at_x at_y =
    let f = fronted root key front n y at_y in
    let x_is = starts_is x (value_front root (length key + suc n) front) at_x in
    let rises = lengths_up root (length key + suc n) f.size (front ++ drop (length (value_front root (length key + suc n) front)) x) f.rest small (omega (arith, f.within, small)) (ap (λ (k : Name). is_le (name_cmp k (value_front root f.size f.rest))) (sym x_is) ∙ ap (λ (k : Name). is_le (name_cmp x k)) (sym f.is) ∙ up) in
    omega (arith, rises, f.within)

pub one_length : {X : Type 0} → (root : ℕ) (key front : List ℕ) (n k : ℕ) (es : List (Name × X)) → k ≡ length key + suc n → k < 10000 → is_sorted name_cmp es ≡ true
    → filter (λ e. begins_within root key front (suc n) e.0) es ≡ filter (λ e. begins_within root key front n e.0) es ++ filter (λ e. starts_with nat_eq e.0 (value_front root k front)) es
unfolding begins_within
one_length {X} root key front n k es is small sorted =
    either_test (λ q. begins_within root key front n q) (λ q. starts_with nat_eq q (value_front root (length key + suc n) front)) (behind_all root key front n (omega (arith, is, small))) es sorted
    ∙ ap (λ (m : ℕ). filter (λ (e : Name × X). begins_within root key front n e.0) es ++ filter (λ (e : Name × X). starts_with nat_eq e.0 (value_front root m front)) es) (sym is)

-- ---- which names begin so

begun_one_more : (root : ℕ) (key front : List ℕ) (n : ℕ) (q : Name) → begins_within root key front n q ≡ true → begins_within root key front (suc n) q ≡ true
unfolding begins_within
begun_one_more root key front n q is = ap (λ b. b || starts_with nat_eq q (value_front root (length key + suc n) front)) is

begun_sooner : (root : ℕ) (key front : List ℕ) (n m : ℕ) (q : Name) → begins_within root key front n q ≡ true → begins_within root key front (n + m) q ≡ true
begun_sooner root key front n zero q is = subst (λ (k : ℕ). begins_within root key front k q ≡ true) (let e : n ≡ n + 0 = omega arith in e) is
begun_sooner root key front n (suc m) q is =
    subst (λ (k : ℕ). begins_within root key front k q ≡ true) (let e : suc (n + m) ≡ n + suc m = omega arith in e) (begun_one_more root key front (n + m) q (begun_sooner root key front n m q is))

begun_here : (root : ℕ) (key front : List ℕ) (n : ℕ) (q : Name) → starts_with nat_eq q (value_front root (length key + suc n) front) ≡ true → begins_within root key front (suc n) q ≡ true
unfolding begins_within
begun_here root key front n q is = ap (λ b. begins_within root key front n q || b) is ∙ or_true (begins_within root key front n q)
  where
    or_true : (b : Bool) → (b || true) ≡ true
    or_true true = refl
    or_true false = refl

begun_first : (root : ℕ) (key front rest : List ℕ) (q : Name) → q ≡ value_front root (length key) (key ++ rest) → begins_within root key front 0 q ≡ true
unfolding begins_within
begun_first root key front rest q is = ap (λ (k : Name). starts_with nat_eq k (value_front root (length key) key)) is ∙ starts_append (value_front root (length key) key) rest

-- the name of a value of the key
pub begins_at_key : (root : ℕ) (key front rest : List ℕ) (n : ℕ) (q : Name) → q ≡ value_front root (length key) (key ++ rest) → begins_within root key front n q ≡ true
begins_at_key root key front rest n q is = subst (λ (k : ℕ). begins_within root key front k q ≡ true) (let e : 0 + n ≡ n = omega arith in e) (begun_sooner root key front 0 n q (begun_first root key front rest q is))

-- the name of a value of a key that has more bytes
pub begins_below_key : (root : ℕ) (key front rest : List ℕ) (n m size : ℕ) (q : Name) → size ≡ length key + suc m → m < n → q ≡ value_front root size (front ++ rest) → begins_within root key front n q ≡ true
begins_below_key root key front rest n m size q size_is within is =
    subst (λ (k : ℕ). begins_within root key front k q ≡ true) (let e : suc m + (n - suc m) ≡ n = omega (arith, within) in e) (begun_sooner root key front (suc m) (n - suc m) q here)
  where
    here : begins_within root key front (suc m) q ≡ true
    here = begun_here root key front m q (ap (λ (k : Name). starts_with nat_eq k (value_front root (length key + suc m) front)) (is ∙ ap (λ (k : ℕ). value_front root k (front ++ rest)) size_is) ∙ starts_append (value_front root (length key + suc m) front) rest)
