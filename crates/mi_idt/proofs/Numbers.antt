-- Numbers in fields: what the readers give, and what digits spell.
use Rattle.std.proofs.Common.{◌≡◌, ◌≢◌, ℕ, zero, suc, ◌+◌, ◌-◌, ◌*◌, ◌/◌, ◌%◌, ◌^◌, ◌≤◌, ◌<◌, ◌++◌, min, eqb, leb, Bool, true, false, cond, ◌&&◌, List, [], ◌∷◌, length, Option, Some, None, ℤ, pos, neg_ℤ, option_map, refl, sym, ap, subst, ◌∙◌, arith, inl, inr, drop}
use Rattle.std.specs.List.{list_all}
use Rattle.std.specs.Fmt.{decimal, signed_decimal}
use Rattle.std.proofs.lemmas.Fmt.{decimal_by_steps}
use Rattle.std.proofs.lemmas.Bool.Decides.{nat_tests}
use Rattle.std.proofs.lemmas.List.{drop_all}
use Rattle.std.proofs.lemmas.Bool.{cases_Bool, eqb-true, leb-true, le-leb}
use Rattle.mi_idt.specs.Fields.{is_digit, number_on, within_on, number_within, integer_within}
use Rattle.mi_idt.specs.Head.{is_numeral}
use Rattle.mi_idt.specs.Spells.{IsNumeral, SpellsInteger}
use Rattle.mi_idt.proofs.Basics.{and_true, cons_not, map_some}

-- ---- a numeral, where the greatest number stands for any larger one

abbrev pub capped_on : ℕ → List ℕ → Option ℕ
capped_on n [] = Some n
capped_on n (d ∷ ds) = cond (is_digit d) (capped_on (min (n * 10 + (d - 48)) 4294967295) ds) None

pub number_on-le : (n : ℕ) (ds : List ℕ) → n ≤ number_on n ds
number_on-le n [] = omega arith
number_on-le n (d ∷ ds) = omega (arith, number_on-le (n * 10 + (d - 48)) ds)

-- a number that is at the limit stays there
capped_step : (n d : ℕ) → min (min n 4294967295 * 10 + d) 4294967295 ≡ min (n * 10 + d) 4294967295
capped_step n d = omega arith

pub capped_is : (n : ℕ) (ds : List ℕ) → capped_on (min n 4294967295) ds ≡ cond (list_all is_digit ds) (Some (min (number_on n ds) 4294967295)) None
capped_is n [] = refl
capped_is n (d ∷ ds) =
    elim (cases_Bool (is_digit d)) [
      | inl t ↦ rw (t, capped_step n (d - 48)) (capped_is (n * 10 + (d - 48)) ds)
      | inr f ↦ rw f refl
    ]

pub numeral_is : (field : List ℕ) (i n : ℕ) {b : Bool} → b ≡ false → b ≡ eqb (length field) 0 → length field ≤ i → capped_on n (drop i field) ≡ capped_on 0 field → Some n ≡ cond (is_numeral field) (Some (min (number_on 0 field) 4294967295)) None
numeral_is field i n some is end same =
    let all : capped_on n [] ≡ capped_on 0 field = ap (capped_on n) (sym (drop_all i field end)) ∙ same in
    let capped = capped_is 0 field in
    let full : eqb (length field) 0 ≡ false = sym is ∙ some in
    rw full (all ∙ capped)

-- ---- digits within a limit

within_is : (limit n m : ℕ) (ds : List ℕ) → n ≤ limit → within_on limit n ds ≡ Some m → (list_all is_digit ds ≡ true) × (m ≡ number_on n ds) × (m ≤ limit)
within_is limit n m [] le e = let same : n ≡ m = cc in (refl, sym same, subst (λ (k : ℕ). k ≤ limit) same le)
within_is limit n m (d ∷ ds) le e =
    elim (cases_Bool (is_digit d && leb (n * 10 + (d - 48)) limit)) [
      | inl t ↦
          let p = and_true (is_digit d) (leb (n * 10 + (d - 48)) limit) t in
          let rest : within_on limit (n * 10 + (d - 48)) ds ≡ Some m = sym (ap (λ (b : Bool). cond b (within_on limit (n * 10 + (d - 48)) ds) None) t) ∙ e in
          let r = within_is limit (n * 10 + (d - 48)) m ds (leb-true _ _ p.1) rest in
          (ap (λ (b : Bool). b && list_all is_digit ds) p.0 ∙ r.0, r.1, r.2)
      | inr f ↦ let none : within_on limit n (d ∷ ds) ≡ None = ap (λ (b : Bool). cond b (within_on limit (n * 10 + (d - 48)) ds) None) f in absurd (some_none e none)
    ]
  where
    some_none : {o : Option ℕ} {k : ℕ} → o ≡ Some k → o ≡ None → ⊥
    some_none e f = absurd cc

is_within : (limit n : ℕ) (ds : List ℕ) → list_all is_digit ds ≡ true → number_on n ds ≤ limit → within_on limit n ds ≡ Some (number_on n ds)
is_within limit n [] digits le = refl
is_within limit n (d ∷ ds) digits le =
    let p = and_true (is_digit d) (list_all is_digit ds) digits in
    let here : leb (n * 10 + (d - 48)) limit ≡ true = le-leb _ _ (omega (arith, number_on-le (n * 10 + (d - 48)) ds, le)) in
    rw (p.0, here) (is_within limit (n * 10 + (d - 48)) ds p.1 le)

pub number_is : (limit m : ℕ) (ds : List ℕ) → number_within limit ds ≡ Some m → IsNumeral ds m × (m ≤ limit)
number_is limit m [] e = absurd cc
number_is limit m (d ∷ ds) e = let r = within_is limit 0 m (d ∷ ds) (omega arith) e in ((cons_not d ds, r.0, r.1), r.2)

pub is_number : (limit m : ℕ) (ds : List ℕ) → IsNumeral ds m → m ≤ limit → number_within limit ds ≡ Some m
is_number limit m [] h le = absurd (h.0 refl)
is_number limit m (d ∷ ds) h le = is_within limit 0 (d ∷ ds) h.1 (subst (λ (k : ℕ). k ≤ limit) h.2 le) ∙ ap Some (sym h.2)

-- ---- integers

pub integer_is : (limit : ℕ) (field : List ℕ) (z : ℤ) → integer_within limit field ≡ Some z → SpellsInteger limit field z
integer_is limit [] z e = absurd cc
integer_is limit (b ∷ bs) z e =
    elim (cases_Bool (eqb b 45)) [
      | inl minus ↦
          let signed : option_map (λ n. neg_ℤ (pos n)) (number_within limit bs) ≡ Some z = sym (ap (λ (t : Bool). cond t (option_map (λ n. neg_ℤ (pos n)) (number_within limit bs)) (option_map pos (number_within limit (b ∷ bs)))) minus) ∙ e in
          let m = map_some (λ n. neg_ℤ (pos n)) (number_within limit bs) z signed in
          let r = number_is limit m.0 bs m.1 in
          inr (bs, m.0, ap (λ (x : ℕ). x ∷ bs) (eqb-true b 45 minus), r.0, r.1, m.2)
      | inr plain ↦
          let unsigned : option_map pos (number_within limit (b ∷ bs)) ≡ Some z = sym (ap (λ (t : Bool). cond t (option_map (λ n. neg_ℤ (pos n)) (number_within limit bs)) (option_map pos (number_within limit (b ∷ bs)))) plain) ∙ e in
          let m = map_some pos (number_within limit (b ∷ bs)) z unsigned in
          let r = number_is limit m.0 (b ∷ bs) m.1 in
          inl (m.0, r.0, r.1, m.2)
    ]

pub digit_no_minus : (b : ℕ) → is_digit b ≡ true → eqb b 45 ≡ false
digit_no_minus b e = elim (cases_Bool (eqb b 45)) [ inl t ↦ let no : is_digit b ≡ false = ap is_digit (eqb-true b 45 t) in absurd cc | inr f ↦ f ]

pub is_integer : (limit : ℕ) (field : List ℕ) (z : ℤ) → SpellsInteger limit field z → integer_within limit field ≡ Some z
is_integer limit [] z (inl h) = absurd (h.1.0 refl)
is_integer limit (b ∷ bs) z (inl h) =
    let first = and_true (is_digit b) (list_all is_digit bs) h.1.1 in
    rw (digit_no_minus b first.0, is_number limit h.0 (b ∷ bs) h.1 h.2) (ap Some (sym h.3))
is_integer limit field z (inr h) = ap (integer_within limit) h.2 ∙ ap (option_map (λ n. neg_ℤ (pos n))) (is_number limit h.1 h.0 h.3 h.4) ∙ ap Some (sym h.5)

-- ---- the written form of a number

number_on-push : (n : ℕ) (ds : List ℕ) (d : ℕ) → number_on n (ds ++ d ∷ []) ≡ number_on n ds * 10 + (d - 48)
number_on-push n [] d = refl
number_on-push n (x ∷ ds) d = number_on-push (n * 10 + (x - 48)) ds d

digits-push : (ds : List ℕ) (d : ℕ) → list_all is_digit ds ≡ true → is_digit d ≡ true → list_all is_digit (ds ++ d ∷ []) ≡ true
digits-push [] d all one = rw one refl
digits-push (x ∷ ds) d all one = let p = and_true (is_digit x) (list_all is_digit ds) all in rw p.0 (digits-push ds d p.1 one)

glyph : (k : ℕ) → k < 10 → is_digit (48 + k) ≡ true
glyph k small = grind (arith, nat_tests)

pub decimal_spells : (n : ℕ) → n < 2 ^ 64 → IsNumeral (decimal n) n
decimal_spells = decimal_by_steps (λ n ds. IsNumeral ds n)
    (λ n small. (cons_not (48 + n) [], rw (glyph n small) refl, omega arith))
    (λ n ds large h. (nonempty ds (48 + n % 10), digits-push ds (48 + n % 10) h.1 (glyph (n % 10) (omega arith)), value n ds h.2))
  where
    nonempty : (ds : List ℕ) (d : ℕ) → ds ++ d ∷ [] ≢ []
    nonempty [] d e = cc
    nonempty (x ∷ ds) d e = cc

    value : (n : ℕ) (ds : List ℕ) → n / 10 ≡ number_on 0 ds → n ≡ number_on 0 (ds ++ (48 + n % 10) ∷ [])
    value n ds e = let p = number_on-push 0 ds (48 + n % 10) in omega arith

pub integer_written : (limit : ℕ) (field : List ℕ) (z : ℤ) → limit < 2 ^ 32 → SpellsInteger limit field z → SpellsInteger limit (signed_decimal z) z
integer_written limit field z small (inl h) = inl (h.0, subst (λ (y : ℤ). IsNumeral (signed_decimal y) h.0) (sym h.3) (decimal_spells h.0 (omega arith)), h.2, h.3)
integer_written limit field z small (inr h) = negated limit z h.1 small h.4 h.5
  where
    negated : (limit : ℕ) (z : ℤ) (n : ℕ) → limit < 2 ^ 32 → n ≤ limit → z ≡ neg_ℤ (pos n) → SpellsInteger limit (signed_decimal z) z
    negated limit z zero small le e = inl (0, subst (λ (y : ℤ). IsNumeral (signed_decimal y) 0) (sym e) (decimal_spells 0 (omega arith)), omega arith, e)
    negated limit z (suc m) small le e = inr (decimal (suc m), suc m, ap signed_decimal e, decimal_spells (suc m) (omega arith), le, e)
