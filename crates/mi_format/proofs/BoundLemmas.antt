-- Names that are too long to be held.
use Rattle.std.proofs.Common.{◌≡◌, ℕ, ◌<◌, Bool, false, cond, List, ◌∷◌, length, ap, arith, inl, inr}
use Rattle.std.specs.Prelude.{String, string_bytes}
use Rattle.std.specs.Str.{bytes_eq}
use Rattle.std.specs.declared.alloc.Global.{Global}
use Rattle.std.proofs.lemmas.Bool.{cases_Bool}
use Rattle.std.proofs.lemmas.Slice.Eq.{bytes_eq-Decides}
use Rattle.mi_text.specs.Plain.{text_in}

other_length : (xs ys : List ℕ) → length xs < length ys → bytes_eq xs ys ≡ false
other_length xs ys lt =
    elim (cases_Bool (bytes_eq xs ys)) [
      | inl same ↦ let is : xs ≡ ys = (bytes_eq-Decides xs ys).0 same in absurd (omega (arith, ap length is))
      | inr other ↦ other
    ]

pub long_skips : (item : String Global × String Global) (items : List (String Global × String Global)) (name : List ℕ) → length (string_bytes item.0) < length name → text_in (item ∷ items) name ≡ text_in items name
long_skips item items name lt = ap (λ (b : Bool). let r : List ℕ = cond b (string_bytes item.1) (text_in items name) in r) (other_length (string_bytes item.0) name lt)
