-- What std reads of digits is the number that they write.
use Rattle.std.proofs.Common.{◌≡◌, ◌<◌, ◌^◌, ◌==◌, ◌∙◌, inl, inr, ℕ, true, List, length, Err, None, refl, ap, sym, arith, rules}
use Rattle.std.specs.Prelude.{nat_le}
use Rattle.std.proofs.lemmas.Bool.{cases_Bool}
use Rattle.std.proofs.lemmas.Bool.Decides.{nat_tests}
use Rattle.std.specs.Char.{is_ascii_digit}
use Rattle.std.specs.List.{list_all}
use Rattle.std.specs.Str.Parse.{digits_value}
use Rattle.std.proofs.lemmas.Str.Parse.{IsNumeralModel, numerals_by_value, parse_digits}
use Rattle.std.proofs.Math.Facts.{Fits-lt-pow}
use Rattle.mi_regval.specs.Numbers.{number_of}
use Rattle.mi_regval.proofs.number.number.Goals as goal

own : IsNumeralModel (λ ds. list_all is_ascii_digit ds ≡ true) (digits_value 10)
own = numerals_by_value _ (search rules)

unread : (most : ℕ) (bs : List ℕ) → list_all is_ascii_digit bs ≡ true → most < 2 ^ 32 → ((0 < length bs) × (digits_value 10 bs < 2 ^ 32) → ⊥) → None ≡ number_of most bs
unread most bs digits small fails =
    elim (cases_Bool (length bs == 0)) [
      | inl none ↦ rw (digits, none) refl
      | inr some ↦
          elim (cases_Bool (nat_le (digits_value 10 bs) most)) [
            | inl fits ↦ absurd (let z : ⊥ = fails (grind (arith, nat_tests), grind (arith, nat_tests)) in z)
            | inr over ↦ rw (digits, some, over) refl
          ]
    ]

pub returns-in_default : goal.returns-in_default
returns-in_default c =
    let digits = ap (list_all is_ascii_digit) (sym c.as_bytes.ensures.value) ∙ sym c.if-not-are_digits.ensures in
    unread c.args.most c.args.digits.now digits (Fits-lt-pow c.ranges.most) (parse_digits own 32 c.args.digits.now (Err c.in_default.field-0) c.in_default.ensures.value.0 digits)
