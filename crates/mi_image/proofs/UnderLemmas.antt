-- The names that begin with some bytes stand together.
use Rattle.std.proofs.Common.{◌≡◌, ℕ, Bool, true, false, cond, ◌&&◌, List, [], ◌∷◌, ◌++◌, map, take, drop, length, refl, sym, ap, subst, ◌∙◌, eq-eqb, append_assoc, Bor}
use Rattle.std.proofs.lemmas.List.{map-append}
use Rattle.std.specs.Prelude.{filter, nat_eq, not}
use Rattle.std.specs.List.{starts_with, AllByRecursion}
use Rattle.std.specs.List.Sorted.{IsStrictlySortedBy}
use Rattle.std.specs.Str.{bytes_eq}
use Rattle.std.specs.Ordering.{nat_cmp, is_le, ordering_then, ordering_reverse}
use Rattle.std.specs.declared.cmp.Ordering.{Ordering}
use Rattle.std.specs.declared.cmp.Ordering.TheVariants.{Less, Equal, Greater}
use Rattle.std.specs.Cmp.{tied_itself}
use Rattle.std.specs.BTreeMap.Comparable.{le_lt_trans}
use Rattle.std.specs.FinMap.{nat_cmp-IsAntisymmetric}
use Rattle.std.proofs.lemmas.Cmp.{nat_cmp_total}
use Rattle.std.proofs.lemmas.Map.Keys.{sorted_head, sorted_tail}
use Rattle.mi_text.specs.Maps.{name_cmp}
use Rattle.mi_text.proofs.MapLemmas.{names_total}
use Rattle.mi_image.proofs.PrefixLemmas.{starts_is}

-- the elements before the first that fails the test
abbrev pub leading : {X : Type 0} → (X → Bool) → List X → List X
leading p [] = []
leading p (x ∷ xs) = cond (p x) (x ∷ leading p xs) []

-- a text doesn't stand above what begins with it
pub front_first : (p r : List ℕ) → is_le (name_cmp p (p ++ r)) ≡ true
front_first [] [] = refl
front_first [] (y ∷ r) = refl
front_first (x ∷ p) r = ap (λ o. is_le (ordering_then o (name_cmp p (p ++ r)))) (tied_itself nat_cmp_total x) ∙ front_first p r

same_head : (x y : ℕ) (p a : List ℕ) → x ≡ y → bytes_eq p a ≡ true → bytes_eq (x ∷ p) (y ∷ a) ≡ true
same_head x y p a same is = ap (λ b. b && bytes_eq p a) (itself x y same) ∙ is
  where
    itself : (x y : ℕ) → x ≡ y → nat_eq x y ≡ true
    itself x y e = eq-eqb x y e

-- what stands between a text and a longer one begins with it
pub between : (p a r : List ℕ) → is_le (name_cmp p a) ≡ true → name_cmp a (p ++ r) ≡ Less → starts_with nat_eq a p ≡ true
between [] a r low high = refl
between (x ∷ p) [] r low high = absurd cc
between (x ∷ p) (y ∷ a) r low high = by_order (λ same high. same_head x y p (take (length p) a) (nat_cmp-IsAntisymmetric x y same) (between p a r (ap (λ o. is_le (ordering_then o (name_cmp p a))) (sym same) ∙ low) high)) (nat_cmp x y) refl low high
  where
    by_order : (nat_cmp x y ≡ Equal → name_cmp a (p ++ r) ≡ Less → starts_with nat_eq (y ∷ a) (x ∷ p) ≡ true) → (o : Ordering) → nat_cmp x y ≡ o → is_le (ordering_then o (name_cmp p a)) ≡ true → ordering_then (nat_cmp y x) (name_cmp a (p ++ r)) ≡ Less → starts_with nat_eq (y ∷ a) (x ∷ p) ≡ true
    by_order then Less is low high = let back : nat_cmp y x ≡ Greater = nat_cmp_total.antisymm y x ∙ ap ordering_reverse is in absurd (let clash : ordering_then Greater (name_cmp a (p ++ r)) ≡ Less = subst (λ o. ordering_then o (name_cmp a (p ++ r)) ≡ Less) back high in cc)
    by_order then Equal is low high =
        let back : nat_cmp y x ≡ Equal = nat_cmp_total.antisymm y x ∙ ap ordering_reverse is in
        then is (subst (λ o. ordering_then o (name_cmp a (p ++ r)) ≡ Less) back high)
    by_order then Greater is low high = absurd cc

-- behind a name that doesn't begin with the text and isn't below it, none does
past : (p a b : List ℕ) → is_le (name_cmp p a) ≡ true → starts_with nat_eq a p ≡ false → name_cmp a b ≡ Less → starts_with nat_eq b p ≡ false
past p a b low differs less = elim (starts_with nat_eq b p) as (λ t. starts_with nat_eq b p ≡ t → t ≡ false) [
  | true ↦ λ t. let begins = between p a (drop (length p) b) low (ap (name_cmp a) (sym (starts_is b p t)) ∙ less) in absurd (let clash : true ≡ false = sym begins ∙ differs in cc)
  | false ↦ λ t. refl
] refl

abbrev by_name : {K : Type 0} → (K → List ℕ) → K → K → Ordering
by_name name a b = name_cmp (name a) (name b)

all_from : {K : Type 0} → (name : K → List ℕ) (p : List ℕ) (a : K) (ks : List K) → is_le (name_cmp p (name a)) ≡ true → AllByRecursion (λ y. by_name name a y ≡ Less) ks → AllByRecursion (λ y. is_le (name_cmp p (name y)) ≡ true) ks
all_from name p a [] low less = tt
all_from name p a (k ∷ ks) low less = (ap is_le (le_lt_trans names_total p (name a) (name k) low less.0), all_from name p a ks low less.1)

module _ {K X : Type 0} (name : K → List ℕ) (p : List ℕ) where
  abbrev begins : K × X → Bool
  begins e = starts_with nat_eq (name e.0) p

  abbrev is_from : K × X → Bool
  is_from e = is_le (name_cmp p (name e.0)) && not false

  abbrev keys : List (K × X) → List K
  keys es = map (λ e. e.0) es

  none_past : (a : K) (es : List (K × X)) → is_le (name_cmp p (name a)) ≡ true → starts_with nat_eq (name a) p ≡ false → AllByRecursion (λ y. by_name name a y ≡ Less) (keys es) → filter begins es ≡ []
  none_past a [] low differs less = refl
  none_past a (e ∷ es) low differs less = rw (past p (name a) (name e.0) low differs less.0) (none_past a es low differs less.1)

  -- from the text on, those that begin with it come first
  come_first : (es : List (K × X)) → IsStrictlySortedBy (by_name name) (keys es) → AllByRecursion (λ y. is_le (name_cmp p (name y)) ≡ true) (keys es) → leading begins es ≡ filter begins es
  come_first [] sorted low = refl
  come_first (e ∷ es) sorted low = elim (begins e) as (λ b. begins e ≡ b → cond b (e ∷ leading begins es) [] ≡ cond b (e ∷ filter begins es) (filter begins es)) [
    | true ↦ λ b. ap (λ (xs : List (K × X)). e ∷ xs) (come_first es (sorted_tail (by_name name) e.0 (keys es) sorted) low.1)
    | false ↦ λ b. sym (none_past e.0 es low.0 b (sorted_head (by_name name) e.0 (keys es) sorted))
  ] refl

  all_kept : (es : List (K × X)) → AllByRecursion (λ y. is_le (name_cmp p (name y)) ≡ true) (keys es) → filter is_from es ≡ es
  all_kept [] low = refl
  all_kept (e ∷ es) low = ap (λ b. cond (b && true) (e ∷ filter is_from es) (filter is_from es)) low.0 ∙ ap (λ (xs : List (K × X)). e ∷ xs) (all_kept es low.1)

  -- those that begin with the text, of all that stand in order
  pub sought : (es : List (K × X)) → IsStrictlySortedBy (by_name name) (keys es) → leading begins (filter is_from es) ≡ filter begins es
  sought [] sorted = refl
  sought (e ∷ es) sorted = elim (is_le (name_cmp p (name e.0))) as (λ b. is_le (name_cmp p (name e.0)) ≡ b → leading begins (cond (b && true) (e ∷ filter is_from es) (filter is_from es)) ≡ filter begins (e ∷ es)) [
    | true ↦ λ b.
        let low : AllByRecursion (λ y. is_le (name_cmp p (name y)) ≡ true) (keys (e ∷ es)) = (b, all_from name p e.0 (keys es) b (sorted_head (by_name name) e.0 (keys es) sorted)) in
        ap (λ (xs : List (K × X)). leading begins (e ∷ xs)) (all_kept es low.1) ∙ come_first (e ∷ es) sorted low
    | false ↦ λ b. sought es (sorted_tail (by_name name) e.0 (keys es) sorted) ∙ elim (begins e) as (λ t. begins e ≡ t → filter begins es ≡ cond t (e ∷ filter begins es) (filter begins es)) [
      | true ↦ λ t. let low : is_le (name_cmp p (name e.0)) ≡ true = ap (λ (n : List ℕ). is_le (name_cmp p n)) (starts_is (name e.0) p t) ∙ front_first p (drop (length p) (name e.0)) in absurd (let clash : true ≡ false = sym low ∙ b in cc)
      | false ↦ λ t. refl
    ] refl
  ] refl

  -- what is told of each entry that is found
  module _ {Y : Type 0} (told : K × X → Y) where
    -- nothing is found at first
    pub found_first : (found : List (Bor Y)) (iter es : List (K × X)) (from : List ℕ) → found ≡ [] → iter ≡ filter (λ e. is_le (name_cmp from (name e.0)) && not false) es → from ≡ p → IsStrictlySortedBy (by_name name) (keys es)
        → map (λ i. i.now) found ++ map told (leading begins iter) ≡ map told (filter begins es)
    found_first found iter es from none is same sorted =
        let here : iter ≡ filter is_from es = is ∙ ap (λ (f : List ℕ). filter (λ (e : K × X). is_le (name_cmp f (name e.0)) && not false) es) same in
        ap (λ (f : List (Bor Y)). map (λ i. i.now) f ++ map told (leading begins iter)) none
        ∙ ap (λ (es : List (K × X)). map told (leading begins es)) here
        ∙ ap (map told) (sought es sorted)

    -- one more is found
    pub found_more : (found new : List (Bor Y)) (iter rest : List (K × X)) (all : List Y) (k : K) (x : X) (y : Bor Y) → iter ≡ (k, x) ∷ rest → y.now ≡ told (k, x) → starts_with nat_eq (name k) p ≡ true → new ≡ found ++ y ∷ []
        → map (λ i. i.now) found ++ map told (leading begins iter) ≡ all → map (λ i. i.now) new ++ map told (leading begins rest) ≡ all
    found_more found new iter rest all k x y is tells front more so_far =
        let step : leading begins iter ≡ (k, x) ∷ leading begins rest = ap (leading begins) is ∙ ap (λ (b : Bool). cond b ((k, x) ∷ leading begins rest) []) front in
        ap (λ (f : List (Bor Y)). map (λ i. i.now) f ++ map told (leading begins rest)) more
        ∙ ap (λ (f : List Y). f ++ map told (leading begins rest)) (map-append (λ (b : Bor Y). b.now) found (y ∷ []))
        ∙ append_assoc (map (λ (b : Bor Y). b.now) found) (y.now ∷ []) (map told (leading begins rest))
        ∙ ap (λ (v : Y). map (λ (b : Bor Y). b.now) found ++ v ∷ map told (leading begins rest)) tells
        ∙ sym (ap (λ (es : List (K × X)). map (λ (b : Bor Y). b.now) found ++ map told es) step)
        ∙ so_far
