-- Columns that are expanded and judged.
use Rattle.std.proofs.Common.{◌≡◌, ℕ, ◌<◌, Bool, true, false, cond, length, Option, refl, ap, ◌∙◌, arith}
use Rattle.std.specs.Prelude.{◌&&◌, nat_le, ℤ, pos, negsuc, ◌≤ℤ◌, Result, Ok, Err}
use Rattle.std.proofs.lemmas.Bool.Decides.{nat_tests}
use Rattle.std.proofs.lemmas.Int.{to_z-of_z, ints}
use Rattle.std.proofs.Common.{SFits, w32, to_z, of_z}
use Rattle.mi_text.specs.Lookups.{Lookups}
use Rattle.mi_base.specs.declared.answers.Fault.{Fault}
use Rattle.mi_base.specs.declared.answers.Fault.TheVariants as faults
use Rattle.mi_base.specs.Limits.{is_value_name, has_no_zero}
use Rattle.mi_format.specs.Expansion as format
use Rattle.mi_format.specs.Expansion.{expanded_within, within}
use Rattle.mi_format.specs.declared.error.LimitFault.{LimitFault}
use Rattle.mi_format.specs.declared.error.LimitFault.TheVariants as limited
use Rattle.mi_format.specs.declared.error.FormatFault.TheVariants.{TooDeep}
use Rattle.mi_schema.specs.Laws.{IsWithin}
use Rattle.mi_model.specs.Texts.{Text}
use Rattle.mi_model.specs.Refusals.{◌>>=◌, expanded, expanded_or_empty}
use Rattle.mi_model.specs.RegistryRows.{RegistryPlace, root_of, good_key, good_name, place_in}
use Rattle.mi_records.specs.declared.stop.Stop.{Stop}
use Rattle.mi_records.specs.declared.stop.Stop.TheVariants.{NoMemory, Refused}
use Rattle.mi_records.specs.Columns.{key_of, judged_name, name_of, named_at}
use Rattle.mi_records.specs.Stops.{fault_of, AnswersBy, AnswersWithin}

-- ---- expansions within a limit

abbrev deep_or : Text → ℕ → Bool → Text → Result Text Fault
deep_or table row deep x = cond deep (Err (faults.TooDeep table row)) (Ok x)

abbrev deep_within : ℕ → Bool → Text → Result Text LimitFault
deep_within limit deep x = within limit (cond deep (Err TooDeep) (Ok x))

module _ (limit : ℕ) (table : Text) (row : ℕ) (x : Text) where
  fits_as : (b : Bool) (v : Text) → ◌≡◌ {A = Result Text LimitFault} (cond b (Ok x) (Err limited.TooLong)) (Ok v) → x ≡ v
  fits_as true v e = cc
  fits_as false v e = cc

  fits_not : (b : Bool) → nat_le (length x) limit ≡ b → ◌≡◌ {A = Result Text LimitFault} (cond b (Ok x) (Err limited.TooLong)) (Err limited.TooLong) → limit < length x
  fits_not true is e = cc
  fits_not false is e = grind (arith, nat_tests)

  fits_deep : (b : Bool) → ◌≡◌ {A = Result Text LimitFault} (cond b (Ok x) (Err limited.TooLong)) (Err limited.TooDeep) → ⊥
  fits_deep true e = cc
  fits_deep false e = cc

  by_ok : (deep : Bool) (v : Text) → deep_within limit deep x ≡ Ok v → deep_or table row deep x ≡ Ok v
  by_ok true v e = cc
  by_ok false v e = ap Ok (fits_as (nat_le (length x) limit) v e)

  by_deep : (deep : Bool) → deep_within limit deep x ≡ Err limited.TooDeep → deep_or table row deep x ≡ Err (faults.TooDeep table row)
  by_deep true e = refl
  by_deep false e = absurd (fits_deep (nat_le (length x) limit) e)

  by_long : (deep : Bool) → deep_within limit deep x ≡ Err limited.TooLong → (text : Text) × (deep_or table row deep x ≡ Ok text) × (limit < length text)
  by_long true e = cc
  by_long false e = (x, refl, fits_not (nat_le (length x) limit) refl e)

module _ (limit : ℕ) (L : Lookups) (table : Text) (row : ℕ) (text : Text) where
  pub within_ok : (v : Text) → expanded_within limit L text ≡ Ok v → expanded L table row text ≡ Ok v
  unfolding expanded_within expanded format.expanded
  within_ok v e = by_ok limit table row (format.expand_of L text) (format.is_too_deep text) v e

  pub within_deep : expanded_within limit L text ≡ Err limited.TooDeep → expanded L table row text ≡ Err (faults.TooDeep table row)
  unfolding expanded_within expanded format.expanded
  within_deep e = by_deep limit table row (format.expand_of L text) (format.is_too_deep text) e

  pub within_long : expanded_within limit L text ≡ Err limited.TooLong → (x : Text) × (expanded L table row text ≡ Ok x) × (limit < length x)
  unfolding expanded_within expanded format.expanded
  within_long e = by_long limit table row (format.expand_of L text) (format.is_too_deep text) e

-- what refuses an expansion refuses what is made of it
pub within_refused : {A B : Type 0} (seen : A → B) (limit : ℕ) (table : Text) (row : ℕ) (x : Result Text Fault) (y : Result B Fault) (stop : Stop) → ((f : Fault) → x ≡ Err f → y ≡ Err f)
    → AnswersWithin limit table row x (Err stop) → AnswersBy seen table row y (Err stop)
within_refused seen limit table row x y NoMemory then is = tt
within_refused seen limit table row x y (Refused why) then is = then (fault_of table row why) is

-- ---- names and keys

pub bound_err : {A B : Type 0} (g : A → Result B Fault) (x : Result A Fault) (f : Fault) → x ≡ Err f → (x >>= g) ≡ Err f
bound_err g x f is = ap (λ r. r >>= g) is

pub bound_ok : {A B : Type 0} (g : A → Result B Fault) (x : Result A Fault) (a : A) → x ≡ Ok a → (x >>= g) ≡ g a
bound_ok g x a is = ap (λ r. r >>= g) is

pub long_name : (table : Text) (row : ℕ) (does : Result Text Fault) (text : Text) → does ≡ Ok text → 500 < length text → judged_name table row does ≡ Err (faults.BadKey table row)
unfolding is_value_name
long_name table row does text is long =
    let short : nat_le (length text) 500 ≡ false = grind (arith, nat_tests) in
    bound_ok (good_name table row) does text is
    ∙ ap (λ b. cond (b && has_no_zero text) (Ok text) (Err (faults.BadKey table row))) short

assoc : {A B C : Type 0} (f : A → Result B Fault) (g : B → Result C Fault) (x : Result A Fault) → (x >>= λ a. f a >>= g) ≡ ((x >>= f) >>= g)
assoc f g (Ok a) = refl
assoc f g (Err e) = refl

abbrev pub naming : ℕ → Text → Text → Result RegistryPlace Fault
naming root key name = Ok (record { root = root; key = key; name = name })

-- the columns of a place, one behind the other
module _ (L : Lookups) (table : Text) (row : ℕ) (root : ℤ) (key : Text) (name : Option Text) where
  abbrev placed : Text → Text → Result RegistryPlace Fault
  placed whole_key whole_name = Ok (record { root = root_of L root; key = whole_key; name = whole_name })

  abbrev names_then : Text → Result RegistryPlace Fault
  names_then whole_key = expanded_or_empty L table row name >>= λ text. good_name table row text >>= placed whole_key

  keyed : (k : Result Text Fault) → (k >>= names_then) ≡ (k >>= λ whole_key. named_at (root_of L root) whole_key (name_of L table row name))
  keyed (Ok k) = assoc (good_name table row) (placed k) (expanded_or_empty L table row name)
  keyed (Err f) = refl

  pub place_by : place_in L table row root key name ≡ (key_of L table row key >>= λ whole_key. named_at (root_of L root) whole_key (name_of L table row name))
  place_by = assoc (good_key table row) names_then (expanded L table row key) ∙ keyed (key_of L table row key)

-- a root as it is passed
root_fits : (z : ℤ) → negsuc 0 ≤ℤ z → z ≤ℤ pos 3 → SFits w32 z
root_fits z low high = grind (arith, ints)

pub root_passed : (z : ℤ) → IsWithin (negsuc 0) (pos 3) z → to_z w32 (of_z w32 z) ≡ z
root_passed z is = to_z-of_z w32 z (root_fits z is.0 is.1)
