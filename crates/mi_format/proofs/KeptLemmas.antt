-- What is kept of a text that grows.
use Rattle.std.proofs.Common.{◌≡◌, ℕ, ◌<◌, ◌≤◌, Bool, true, false, cond, List, [], ◌∷◌, ◌++◌, length, Option, Some, None, refl, sym, ap, ◌∙◌, append_assoc, length-append, arith, inl, inr, ◌&&◌}
use Rattle.std.specs.Prelude.{nat_le}
use Rattle.std.specs.List.{list_all}
use Rattle.std.specs.Option.{option_or}
use Rattle.std.proofs.lemmas.Bool.{cases_Bool}
use Rattle.std.proofs.lemmas.Bool.Decides.{nat_tests}
use Rattle.std.proofs.lemmas.List.Folds.{list_all-append}
use Rattle.mi_text.specs.PropertyNames.{continues_name}
use Rattle.mi_format.specs.declared.part.Brackets.{Brackets}
use Rattle.mi_format.specs.declared.part.Look.{Look}
use Rattle.mi_format.specs.declared.part.Held.{Held}
use Rattle.mi_format.specs.declared.part.Held.TheVariants.{Whole, Longer}
use Rattle.mi_format.specs.declared.part.Kept.{Kept}
use Rattle.mi_format.specs.State.{Part, both, plain, part_beside}
use Rattle.mi_format.specs.Kept.{first_byte, look_of, look_on, kept, grown, joined, kept_part, kept_beside}

pub kept_whole : (most : ℕ) (text : List ℕ) → length text ≤ most → kept most text ≡ Whole text
kept_whole most text le = let h : nat_le (length text) most ≡ true = grind (arith, nat_tests) in ap (λ (b : Bool). cond b (Whole text) (Longer (look_of text))) h

pub kept_longer : (most : ℕ) (text : List ℕ) → most < length text → kept most text ≡ Longer (look_of text)
kept_longer most text lt = let h : nat_le (length text) most ≡ false = grind (arith, nat_tests) in ap (λ (b : Bool). cond b (Whole text) (Longer (look_of text))) h

pub at_most : (n most : ℕ) → nat_le n most ≡ true → n ≤ most
at_most n most e = grind (arith, nat_tests)

pub above : (n most : ℕ) → nat_le n most ≡ false → most < n
above n most e = grind (arith, nat_tests)

-- ---- what is known of a text and more

first-append : (a b : List ℕ) → first_byte (a ++ b) ≡ option_or (first_byte a) (first_byte b)
first-append [] b = refl
first-append (x ∷ xs) b = refl

abbrev looks : Option ℕ → Bool → Look
looks f c = record { first = f; continues = c }

pub look-append : (a b : List ℕ) → look_on (look_of a) (look_of b) ≡ look_of (a ++ b)
look-append a b =
    ap (λ (f : Option ℕ). looks f (list_all continues_name a && list_all continues_name b)) (sym (first-append a b))
    ∙ ap (looks (first_byte (a ++ b))) (sym (list_all-append continues_name a b))

or_assoc : (a b c : Option ℕ) → option_or (option_or a b) c ≡ option_or a (option_or b c)
or_assoc None b c = refl
or_assoc (Some x) b c = refl

and_assoc : (a b c : Bool) → ((a && b) && c) ≡ (a && (b && c))
and_assoc true b c = refl
and_assoc false b c = refl

pub look_assoc : (a b c : Look) → look_on (look_on a b) c ≡ look_on a (look_on b c)
look_assoc a b c =
    ap (λ (f : Option ℕ). looks f ((a.continues && b.continues) && c.continues)) (or_assoc a.first b.first c.first)
    ∙ ap (looks (option_or a.first (option_or b.first c.first))) (and_assoc a.continues b.continues c.continues)

-- ---- what is kept of a text and more

pub kept-grown : (most : ℕ) (text more : List ℕ) → grown most (kept most text) more ≡ kept most (text ++ more)
kept-grown most text more =
    elim (cases_Bool (nat_le (length text) most)) [
      | inl fits ↦ ap (λ (t : Held). grown most t more) (kept_whole most text (at_most (length text) most fits))
      | inr past ↦
          let lt : most < length text = above (length text) most past in
          ap (λ (t : Held). grown most t more) (kept_longer most text lt)
          ∙ ap Longer (look-append text more)
          ∙ sym (kept_longer most (text ++ more) (let h = length-append text more in omega arith))
    ]

pub grown-grown : (most : ℕ) (t : Held) (a b : List ℕ) → grown most (grown most t a) b ≡ grown most t (a ++ b)
grown-grown most (Longer l) a b = ap Longer (look_assoc l (look_of a) (look_of b) ∙ ap (look_on l) (look-append a b))
grown-grown most (Whole s) a b = kept-grown most (s ++ a) b ∙ ap (kept most) (append_assoc s a b)

joined_longer : (most : ℕ) (t : Held) (a : List ℕ) (l : Look) → t ≡ kept most a → joined most t (Longer l) ≡ Longer (look_on (look_of a) l)
joined_longer most (Whole s) a l e =
    elim (cases_Bool (nat_le (length a) most)) [
      | inl fits ↦ let same : Whole s ≡ Whole a = e ∙ kept_whole most a (at_most (length a) most fits) in let is : s ≡ a = cc in ap (λ (x : List ℕ). Longer (look_on (look_of x) l)) is
      | inr past ↦ let none : Whole s ≡ Longer (look_of a) = e ∙ kept_longer most a (above (length a) most past) in absurd cc
    ]
joined_longer most (Longer k) a l e =
    elim (cases_Bool (nat_le (length a) most)) [
      | inl fits ↦ let none : Longer k ≡ Whole a = e ∙ kept_whole most a (at_most (length a) most fits) in absurd cc
      | inr past ↦ let same : Longer k ≡ Longer (look_of a) = e ∙ kept_longer most a (above (length a) most past) in let is : k ≡ look_of a = cc in ap (λ (x : Look). Longer (look_on x l)) is
    ]

pub kept-joined : (most : ℕ) (a b : List ℕ) → joined most (kept most a) (kept most b) ≡ kept most (a ++ b)
kept-joined most a b =
    elim (cases_Bool (nat_le (length b) most)) [
      | inl fits ↦ ap (joined most (kept most a)) (kept_whole most b (at_most (length b) most fits)) ∙ kept-grown most a b
      | inr past ↦
          let lt : most < length b = above (length b) most past in
          ap (joined most (kept most a)) (kept_longer most b lt)
          ∙ joined_longer most (kept most a) a (look_of b) refl
          ∙ ap Longer (look-append a b)
          ∙ sym (kept_longer most (a ++ b) (let h = length-append a b in omega arith))
    ]

abbrev as_kept : Brackets → Held → Kept
as_kept b t = record { text = t; brackets = b }

pub kept-beside : (most : ℕ) (p q : Part) → kept_beside most (kept_part most p) q ≡ kept_part most (part_beside p q)
kept-beside most p q = ap (as_kept (both p.brackets q.brackets)) (kept-grown most p.text q.text)

pub kept-both : (most : ℕ) (p q : Part) → as_kept (both p.brackets q.brackets) (joined most (kept most p.text) (kept most q.text)) ≡ kept_part most (part_beside p q)
kept-both most p q = ap (as_kept (both p.brackets q.brackets)) (kept-joined most p.text q.text)

pub nothing_kept : (most : ℕ) → as_kept (plain []).brackets (Whole []) ≡ kept_part most (plain [])
nothing_kept most = ap (as_kept (plain []).brackets) (sym (kept_whole most [] (omega arith)))

-- ---- a text between two others

pub between_kept : (most : ℕ) (t i : Held) (before x front back : List ℕ) → t ≡ kept most before → i ≡ kept most x
    → grown most (joined most (grown most t front) i) back ≡ kept most (before ++ (front ++ (x ++ back)))
between_kept most t i before x front back e f =
    ap (λ (a : Held). grown most (joined most (grown most a front) i) back) e
    ∙ ap (λ (a : Held). grown most (joined most (grown most (kept most before) front) a) back) f
    ∙ ap (λ (a : Held). grown most (joined most a (kept most x)) back) (kept-grown most before front)
    ∙ ap (λ (a : Held). grown most a back) (kept-joined most (before ++ front) x)
    ∙ kept-grown most ((before ++ front) ++ x) back
    ∙ ap (kept most) (append_assoc (before ++ front) x back ∙ append_assoc before front (x ++ back))
