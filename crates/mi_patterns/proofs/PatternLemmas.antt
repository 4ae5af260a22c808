-- Patterns against texts: what a `*` and the other characters make of them.
use Rattle.std.proofs.Common.{◌≡◌, ℕ, zero, suc, Bool, true, false, ◌||◌, ◌&&◌, ◌==◌, ◌⊎◌, inl, inr, List, [], ◌∷◌, length, drop, refl, sym, ap, ◌∙◌, arith, if◌then◌else◌, add-one}
use Rattle.std.proofs.lemmas.List.{drop-drop}
use Rattle.std.proofs.lemmas.Bool.{ne_eqb}
use Rattle.std.specs.List.{list_all}
use Rattle.mi_model.specs.Patterns.{matches}

pub same_from_trues : (a b : Bool) → (a ≡ true → b ≡ true) → (b ≡ true → a ≡ true) → a ≡ b
same_from_trues true b f g = sym (f refl)
same_from_trues false true f g = g refl
same_from_trues false false f g = refl

either : (a b : Bool) → (a || b) ≡ true → (a ≡ true) ⊎ (b ≡ true)
either true b h = inl refl
either false b h = inr h

first_true : (a b : Bool) → a ≡ true → (a || b) ≡ true
first_true a b h = cc

second_true : (a b : Bool) → b ≡ true → (a || b) ≡ true
second_true true b h = refl
second_true false b h = h

first_false : (a b : Bool) → a ≡ false → (a || b) ≡ b
first_false a b h = cc

pub empty : (l : List ℕ) → length l ≡ 0 → l ≡ []
empty [] h = refl
empty (x ∷ xs) h = absurd (omega arith)

-- an empty pattern is that of no text that has characters
pub none_left : (all text ts : List ℕ) (c : ℕ) → length all ≡ 0 → text ≡ c ∷ ts → matches all text ≡ false
none_left all text ts c h e = ap (λ q. matches q text) (empty all h) ∙ ap (matches []) e ∙ ne_eqb (length (c ∷ ts)) 0 (λ (z : length (c ∷ ts) ≡ 0). absurd (omega arith))

-- ---- a `*`

pub star_from : (ps ts : List ℕ) (n : ℕ) → matches ps (drop n ts) ≡ true → matches (42 ∷ ps) ts ≡ true
star_from ps [] zero h = first_true _ _ h
star_from ps [] (suc n) h = first_true _ _ h
star_from ps (t ∷ ts) zero h = first_true _ _ h
star_from ps (t ∷ ts) (suc n) h = second_true (matches ps (t ∷ ts)) _ (star_from ps ts n h)

pub star_end : (ps ts : List ℕ) → matches (42 ∷ ps) ts ≡ true → (n : ℕ) × (matches ps (drop n ts) ≡ true)
star_end ps [] h = elim (either _ _ h) [ inl e ↦ (0, e) | inr e ↦ absurd (cc) ]
star_end ps (t ∷ ts) h =
    elim (either _ _ h) [
      | inl e ↦ (0, e)
      | inr e ↦ let w = star_end ps ts e in (suc w.0, w.1)
    ]

-- a `*` that stands for no character may stand for one more, where what is behind it doesn't pass
pub star_goes_on : (ps ts : List ℕ) (t : ℕ) → matches ps (t ∷ ts) ≡ false → matches (42 ∷ ps) (t ∷ ts) ≡ matches (42 ∷ ps) ts
star_goes_on ps ts t h = first_false _ _ h

-- against nothing
pub all_stars : (ps : List ℕ) → matches ps [] ≡ list_all (λ p. p == 42) ps
all_stars [] = refl
all_stars (p ∷ ps) = by_test (p == 42) (matches ps []) _ (all_stars ps)
  where
    by_test : (b x y : Bool) → x ≡ y → (if b then (x || false) else false) ≡ (b && y)
    by_test true true y e = e
    by_test true false y e = e
    by_test false x y e = refl

-- ---- another character

if_not : {A : Type 0} (b : Bool) (x y : A) → b ≡ false → (if b then x else y) ≡ y
if_not true x y h = absurd (cc)
if_not false x y h = refl

both : (a b : Bool) → (a && b) ≡ true → b ≡ true
both true b h = h
both false b h = absurd (cc)

and_first : (a b : Bool) → a ≡ true → (a && b) ≡ b
and_first a b h = cc

not_first : (a b : Bool) → a ≡ false → (a && b) ≡ false
not_first a b h = cc

pub one_here : (ps ts : List ℕ) (p c : ℕ) → (p == 42) ≡ false → ((p == 63) || (c == p)) ≡ true → matches (p ∷ ps) (c ∷ ts) ≡ matches ps ts
one_here ps ts p c h t = if_not _ _ _ h ∙ and_first _ _ t

none_passes : (ps ts : List ℕ) (p c : ℕ) → (p == 42) ≡ false → ((p == 63) || (c == p)) ≡ false → matches (p ∷ ps) (c ∷ ts) ≡ false
none_passes ps ts p c h t = if_not _ _ _ h ∙ not_first _ _ t

pub none_here : (all ps text ts : List ℕ) (p c : ℕ) → all ≡ p ∷ ps → text ≡ c ∷ ts → (p == 42) ≡ false → ((p == 63) || (c == p)) ≡ false → matches all text ≡ false
none_here all ps text ts p c e f h t = ap (λ q. matches q text) e ∙ ap (matches (p ∷ ps)) f ∙ none_passes ps ts p c h t

one_taken : (ps xs : List ℕ) (p : ℕ) → (p == 42) ≡ false → matches (p ∷ ps) xs ≡ true → matches ps (drop 1 xs) ≡ true
one_taken ps [] p h t = absurd (let e : matches (p ∷ ps) [] ≡ false = if_not _ _ _ h in cc)
one_taken ps (x ∷ xs) p h t = both ((p == 63) || (x == p)) _ (sym (if_not _ _ _ h) ∙ t)

pub one_later : (ps ts : List ℕ) (p c n : ℕ) → (p == 42) ≡ false → matches (p ∷ ps) (drop n (c ∷ ts)) ≡ true → matches ps (drop n ts) ≡ true
one_later ps ts p c n h t =
    let e : drop 1 (drop n (c ∷ ts)) ≡ drop n ts = drop-drop 1 n (c ∷ ts) ∙ rw add-one in
    sym (ap (matches ps) e) ∙ one_taken ps (drop n (c ∷ ts)) p h t
