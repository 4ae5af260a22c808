-- Lists that have the same names: tests over them agree, and they are one set.
use Rattle.std.proofs.Common.{◌≡◌, ℕ, Bool, true, false, cond, ◌||◌, List, [], ◌∷◌, map, filter, Some, None, refl, sym, ap, ◌∙◌, sum_by}
use Rattle.std.specs.Prelude.{◌&&◌, option_map}
use Rattle.std.specs.List.{list_all, filter_map}
use Rattle.std.specs.FinMap.{get, keys, from_entries}
use Rattle.std.proofs.lemmas.Bool.{and_parts, and_from, or_left, or_right}
use Rattle.std.proofs.lemmas.List.Sums.{sum_by-cons}
use Rattle.mi_text.specs.Maps.{Name, name_cmp, same_name, is_among, tabulated}
use Rattle.mi_text.proofs.MapLemmas.{from_same, same_itself, same, get-tabulated}
use Rattle.mi_model.specs.Cost.{set_of}

-- two lists have the same names
abbrev pub Alike : List Name → List Name → Type 0
Alike a b = (q : Name) → is_among q a ≡ is_among q b

-- ---- tests

all_at : (p : Name → Bool) (names : List Name) → list_all p names ≡ true → (q : Name) → is_among q names ≡ true → p q ≡ true
all_at p [] all q is = cc
all_at p (n ∷ names) all q is =
    elim (same_name q n) as (λ b. same_name q n ≡ b → (b || is_among q names) ≡ true → p q ≡ true) [
      | true ↦ λ e i. ap p (from_same q n e) ∙ (and_parts (p n) (list_all p names) all).0
      | false ↦ λ e i. all_at p names (and_parts (p n) (list_all p names) all).1 q i
    ] refl is

all_from : (p : Name → Bool) (names : List Name) → ((q : Name) → is_among q names ≡ true → p q ≡ true) → list_all p names ≡ true
all_from p [] h = refl
all_from p (n ∷ names) h = and_from (p n) (list_all p names) (h n (or_left (same_name n n) (is_among n names) (same_itself n))) (all_from p names (λ q i. h q (or_right (same_name q n) (is_among q names) i)))

pub same_truth : (x y : Bool) → (x ≡ true → y ≡ true) → (y ≡ true → x ≡ true) → x ≡ y
same_truth true y f g = sym (f refl)
same_truth false true f g = g refl
same_truth false false f g = refl

pub all_alike : (p r : Name → Bool) (a b : List Name) → Alike a b → ((q : Name) → p q ≡ r q) → list_all p a ≡ list_all r b
all_alike p r a b alike agree = same_truth (list_all p a) (list_all r b)
    (λ all. all_from r b (λ q i. sym (agree q) ∙ all_at p a all q (alike q ∙ i)))
    (λ all. all_from p a (λ q i. agree q ∙ all_at r b all q (sym (alike q) ∙ i)))

-- ---- sets

as_tabulated : (names : List Name) → map {B = Name × Bool} (λ n. (n, true)) names ≡ filter_map {Y = Name × Bool} (λ n. option_map (λ x. (n, x)) (Some true)) names
as_tabulated [] = refl
as_tabulated (n ∷ names) = ap (λ (es : List (Name × Bool)). (n, true) ∷ es) (as_tabulated names)

pub get-set_of : (names : List Name) (q : Name) → get (set_of names) q ≡ cond (is_among q names) (Some true) None
unfolding tabulated
get-set_of names q = ap (λ (es : List (Name × Bool)). get {R = name_cmp} (from_entries es) q) (as_tabulated names) ∙ get-tabulated (λ n. Some true) names q

pub keys_alike : (a b : List Name) → Alike a b → keys (set_of a) ≡ keys (set_of b)
keys_alike a b alike = ap keys (same (set_of a) (set_of b) (λ q. get-set_of a q ∙ ap (λ (x : Bool). cond x (Some true) None) (alike q) ∙ sym (get-set_of b q)))

-- ---- sums

pub sum_alike : (f g : Name → ℕ) (names : List Name) → ((q : Name) → f q ≡ g q) → sum_by f names ≡ sum_by g names
sum_alike f g [] h = refl
sum_alike f g (n ∷ names) h = rw (sum_by-cons f n names, sum_by-cons g n names, h n, sum_alike f g names h) refl

-- ---- names that pass a test

pub among-filter : (p : Name → Bool) (q : Name) (names : List Name) → is_among q (filter p names) ≡ (p q && is_among q names)
among-filter p q [] = elim (p q) as (λ b. false ≡ (b && false)) [ true ↦ refl | false ↦ refl ]
among-filter p q (n ∷ names) =
    elim (p n) as (λ b. p n ≡ b → is_among q (cond b (n ∷ filter p names) (filter p names)) ≡ (p q && (same_name q n || is_among q names))) [
      | true ↦ λ e. kept (same_name q n) (p q) (is_among q (filter p names)) (is_among q names) (among-filter p q names) (λ is. ap p (from_same q n is) ∙ e)
      | false ↦ λ e. dropped (same_name q n) (p q) (is_among q (filter p names)) (is_among q names) (among-filter p q names) (λ is. ap p (from_same q n is) ∙ e)
    ] refl
  where
    kept : (is pq rest all : Bool) → rest ≡ (pq && all) → (is ≡ true → pq ≡ true) → (is || rest) ≡ (pq && (is || all))
    kept true pq rest all r h = ap (λ (b : Bool). b && true) (sym (h refl))
    kept false pq rest all r h = r

    dropped : (is pq rest all : Bool) → rest ≡ (pq && all) → (is ≡ true → pq ≡ false) → rest ≡ (pq && (is || all))
    dropped true pq rest all r h = r ∙ ap (λ (b : Bool). b && all) (h refl) ∙ ap (λ (b : Bool). b && true) (sym (h refl))
    dropped false pq rest all r h = r
