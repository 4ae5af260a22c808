-- What std reads of digits is the number that they write.
use Rattle.std.proofs.Common.{◌≡◌, ◌<◌, ◌^◌, ◌==◌, ◌∙◌, inl, inr, ℕ, true, false, List, length, Result, Ok, Err, Some, None, refl, ap, sym, arith, rules}
use Rattle.std.specs.Prelude.{nat_lt}
use Rattle.std.proofs.lemmas.Bool.{cases_Bool}
use Rattle.std.proofs.lemmas.Bool.Decides.{nat_tests}
use Rattle.std.specs.Char.{is_ascii_digit}
use Rattle.std.specs.List.{list_all}
use Rattle.std.specs.Result.{OkIff, result_ok}
use Rattle.std.specs.Str.Parse.{digits_value}
use Rattle.std.proofs.lemmas.Str.Parse.{IsNumeralModel, numerals_by_value, parse_digits}
use Rattle.mi_text.specs.Version.{part_number}
use Rattle.mi_text.proofs.version.number.Goals as goal

own : IsNumeralModel (λ ds. list_all is_ascii_digit ds ≡ true) (digits_value 10)
own = numerals_by_value _ (search rules)

small : (bs : List ℕ) (x : ℕ) → list_all is_ascii_digit bs ≡ true → 0 < length bs → digits_value 10 bs < 2 ^ 16 → x ≡ digits_value 10 bs → Some x ≡ part_number bs
small bs x digits some fits is =
    let a : (length bs == 0) ≡ false = grind (arith, nat_tests) in
    let b : nat_lt (digits_value 10 bs) 65536 ≡ true = grind (arith, nat_tests) in
    rw (digits, a, b) (ap Some is)

large : (bs : List ℕ) → list_all is_ascii_digit bs ≡ true → (0 < length bs → digits_value 10 bs < 2 ^ 16 → ⊥) → None ≡ part_number bs
large bs digits fails =
    elim (cases_Bool (length bs == 0)) [
      | inl none ↦ rw (digits, none) refl
      | inr some ↦
          elim (cases_Bool (nat_lt (digits_value 10 bs) 65536)) [
            | inl fits ↦ absurd (let z : ⊥ = fails (grind (arith, nat_tests)) (grind (arith, nat_tests)) in z)
            | inr over ↦ rw (digits, some, over) refl
          ]
    ]

number_read : {E : Type 0} → (r : Result ℕ E) (bs : List ℕ) → list_all is_ascii_digit bs ≡ true → OkIff r ((0 < length bs) × (digits_value 10 bs < 2 ^ 16)) (digits_value 10 bs) → result_ok r ≡ part_number bs
number_read (Ok x) bs digits h = small bs x digits h.0.0 h.0.1 h.1
number_read (Err e) bs digits h = large bs digits (λ a b. h (a, b))

all_digits : (c : goal.After-ok) → list_all is_ascii_digit c.args.part.now ≡ true
all_digits c = ap (list_all is_ascii_digit) (sym c.as_bytes.ensures.value) ∙ sym c.if-not-is_digits.ensures

pub returns : goal.returns
returns c = c.ok.ensures.value ∙ number_read c.parse.result c.args.part.now (all_digits c) (parse_digits own 16 c.args.part.now c.parse.result c.parse.ensures.value.0 (all_digits c))
