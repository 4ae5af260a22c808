-- Words in either case.
use Rattle.std.proofs.Common.{◌≡◌, ℕ, zero, suc, ◌+◌, Option, None, Some, Bool, true, false, eqb, ◌&&◌, ◌||◌, List, [], ◌∷◌, Bor, length, drop, refl, sym, ap, ◌∙◌, arith, inl, inr}
use Rattle.std.specs.Prelude.{codes, MatchOption}
use Rattle.mi_fver.specs.LetterTests.{is_letter}
use Rattle.mi_model.specs.Words.{is_repair}
use Rattle.std.specs.List.{list_all, starts_with}
use Rattle.std.specs.Char.{to_ascii_lowercase}
use Rattle.std.specs.Str.Pattern.{FindsTextPrefix}
use Rattle.std.proofs.lemmas.Bool.{cases_lt, lt-ltb, le-ltb}
use Rattle.std.proofs.lemmas.Bool.Decides.{nat_tests}
use Rattle.std.proofs.lemmas.Str.Pattern.{starts_text}
use Rattle.mi_text.specs.Fold.{folded}

low_slash : (b : ℕ) → eqb 47 (to_ascii_lowercase b) ≡ eqb 47 b
low_slash b =
    elim (cases_lt b 65) [
      | inl low ↦ rw (lt-ltb b 65 low) refl
      | inr up ↦ elim (cases_lt b 91) [
        | inl letter ↦ rw (le-ltb b 65 up, lt-ltb b 91 letter) (let x : eqb 47 (b + 32) ≡ false = grind (arith, nat_tests) in let y : eqb 47 b ≡ false = grind (arith, nat_tests) in x ∙ sym y)
        | inr high ↦ rw (le-ltb b 65 up, le-ltb b 91 high) refl
      ]
    ]

low_f : (b : ℕ) → eqb 102 (to_ascii_lowercase b) ≡ (eqb 102 b || eqb 70 b)
low_f b =
    elim (cases_lt b 65) [
      | inl low ↦ rw (lt-ltb b 65 low) (let x : eqb 102 b ≡ false = grind (arith, nat_tests) in let y : eqb 70 b ≡ false = grind (arith, nat_tests) in rw (x, y) refl)
      | inr up ↦ elim (cases_lt b 91) [
        | inl letter ↦ rw (le-ltb b 65 up, lt-ltb b 91 letter) (let x : eqb 102 b ≡ false = grind (arith, nat_tests) in let y : eqb 102 (b + 32) ≡ eqb 70 b = grind (arith, nat_tests) in rw x y)
        | inr high ↦ rw (le-ltb b 65 up, le-ltb b 91 high) (let y : eqb 70 b ≡ false = grind (arith, nat_tests) in rw y (at (eqb 102 b)))
      ]
    ]
  where
    at : (x : Bool) → x ≡ (x || false)
    at true = refl
    at false = refl

-- ---- `/f` in either case

neither : (a b c : Bool) → (a && (b && true)) ≡ false → (a && (c && true)) ≡ false → (a && ((b || c) && true)) ≡ false
neither true true c lower upper = lower
neither true false c lower upper = upper
neither false b c lower upper = refl

no_second : (a : Bool) → (a && false) ≡ false
no_second true = refl
no_second false = refl

not_repair : (s : List ℕ) → starts_with eqb s (codes "/f") ≡ false → starts_with eqb s (codes "/F") ≡ false → starts_with eqb (folded s) (codes "/f") ≡ false
not_repair [] lower upper = refl
not_repair (a ∷ []) lower upper = no_second (eqb 47 (to_ascii_lowercase a))
not_repair (a ∷ b ∷ s) lower upper = (λ i. low_slash a i && (low_f b i && true)) ∙ neither (eqb 47 a) (eqb 102 b) (eqb 70 b) lower upper

-- neither `/f` nor `/F` begins the word
pub begins_neither : (s : List ℕ) → FindsTextPrefix (codes "/f") s None → FindsTextPrefix (codes "/F") s None → starts_with eqb (folded s) (codes "/f") ≡ false
begins_neither s lower upper = not_repair s (sym (starts_text false (codes "/f") s lower)) (sym (starts_text false (codes "/F") s upper))

pub begins_either : (s rest : List ℕ) (f : ℕ) → to_ascii_lowercase f ≡ 102 → s ≡ 47 ∷ f ∷ rest → starts_with eqb (folded s) (codes "/f") ≡ true
begins_either s rest f low is = ap (λ (t : List ℕ). starts_with eqb (folded t) (codes "/f")) is ∙ ap (λ n. eqb 102 n && true) low

-- ---- folding a list

pub all_folded : (p : ℕ → Bool) (t : List ℕ) → list_all (λ b. p (to_ascii_lowercase b)) t ≡ list_all p (folded t)
all_folded p [] = refl
all_folded p (b ∷ t) = ap (λ (x : Bool). p (to_ascii_lowercase b) && x) (all_folded p t)

pub drop_folded : (n : ℕ) (t : List ℕ) → folded (drop n t) ≡ drop n (folded t)
drop_folded zero t = refl
drop_folded (suc n) [] = refl
drop_folded (suc n) (b ∷ t) = drop_folded n t

-- what stands behind `/F`, where `/f` doesn't begin the word
pub behind_upper : (s : List ℕ) (r : Option (Bor (List ℕ))) → FindsTextPrefix (codes "/f") s None → MatchOption r (FindsTextPrefix (codes "/F") s None) (λ x. (n : ℕ) × FindsTextPrefix (codes "/F") s (Some n) × (x.now ≡ drop n s) × (length x.now + n ≡ length s))
    → MatchOption r (starts_with eqb (folded s) (codes "/f") ≡ false) (λ x. (starts_with eqb (folded s) (codes "/f") ≡ true) × (x.now ≡ drop 2 s))
behind_upper s None lower upper = begins_neither s lower upper
behind_upper s (Some x) lower upper = (begins_either s (drop upper.0 s) 70 refl upper.1.1, upper.2 ∙ ap (λ n. drop n s) upper.1.0)

pub repairs : (word letters : List ℕ) → starts_with eqb (folded word) (codes "/f") ≡ true → letters ≡ drop 2 word → list_all (λ b. is_letter (to_ascii_lowercase b)) letters ≡ true → is_repair (folded word) ≡ true
repairs word letters begins is all = ap (λ (b : Bool). b && list_all is_letter (drop 2 (folded word))) begins ∙ ap (list_all is_letter) (sym (drop_folded 2 word) ∙ ap folded (sym is)) ∙ sym (all_folded is_letter letters) ∙ all

pub no_repair : (word letters : List ℕ) → letters ≡ drop 2 word → list_all (λ b. is_letter (to_ascii_lowercase b)) letters ≡ false → is_repair (folded word) ≡ false
no_repair word letters is none = ap (λ (b : Bool). starts_with eqb (folded word) (codes "/f") && b) (ap (list_all is_letter) (sym (drop_folded 2 word) ∙ ap folded (sym is)) ∙ sym (all_folded is_letter letters) ∙ none) ∙ no_second (starts_with eqb (folded word) (codes "/f"))

pub no_begin : (word : List ℕ) → starts_with eqb (folded word) (codes "/f") ≡ false → is_repair (folded word) ≡ false
no_begin word begins = ap (λ (b : Bool). b && list_all is_letter (drop 2 (folded word))) begins
