-- Codes as they are printed.
use Rattle.std.proofs.Common.{◌≡◌, ℕ, zero, suc, ◌+◌, ◌*◌, ◌^◌, ◌<◌, Bool, true, false, cond, eqb, ◌&&◌, List, [], ◌∷◌, length, get_or, take, drop, Option, Some, None, refl, sym, ap, subst, ◌∙◌, arith, inl, inr}
use Rattle.std.specs.Prelude.{option_map, option_and_then}
use Rattle.std.specs.Int.{w128, from_be_bytes, to_be_bytes}
use Rattle.std.specs.List.{list_all}
use Rattle.std.specs.Str.{is_utf8, IsUtf8, bytes_eq}
use Rattle.std.proofs.lemmas.Bool.{cases_lt, cases_Bool}
use Rattle.std.proofs.lemmas.Bool.Decides.{nat_tests}
use Rattle.std.proofs.lemmas.List.{get_or_past}
use Rattle.std.proofs.lemmas.Slice.Eq.{bytes_eq-Decides}
use Rattle.std.proofs.lemmas.Str.{is_utf8-from_IsUtf8, IsUtf8-from_ascii}
use Rattle.uuid.specs.Text.{by_index, is_hex_digit, value_of, byte_of_digits, parsed_simple, has_hyphens, digits_of, parsed_hyphenated, parsed_braced, upper}
use Rattle.uuid.proofs.TextLemmas.{by_index_at, by_index_length, braced_ascii}
use Rattle.mi_text.specs.Guid.{guid_of, guid_text}
use Rattle.mi_text.proofs.GuidLemmas.{guid_of-guid_text}
use Rattle.mi_base.specs.Records.{code_in}
use Rattle.mi_base.proofs.ByteLemmas.{both}

digit_small : (c : ℕ) → is_hex_digit c ≡ true → value_of c < 16
digit_small c e = grind (arith, nat_tests)

each_small : (hex : List ℕ) → list_all is_hex_digit hex ≡ true → (i : ℕ) → value_of (get_or hex i 0) < 16
each_small [] e i = omega arith
each_small (c ∷ hex) e zero = digit_small c (both _ _ e).0
each_small (c ∷ hex) e (suc i) = each_small hex (both _ _ e).1 i

byte_small : (hex : List ℕ) → list_all is_hex_digit hex ≡ true → (i : ℕ) → get_or (by_index 16 (byte_of_digits hex)) i 0 < 256
byte_small hex e i =
    elim (cases_lt i 16) [
      | inl within ↦ let a = each_small hex e (2 * i) in let b = each_small hex e (2 * i + 1) in rw (by_index_at 16 (byte_of_digits hex) i 0 within) (omega arith)
      | inr past ↦ rw (get_or_past (by_index 16 (byte_of_digits hex)) i 0 (omega (arith, by_index_length 16 (byte_of_digits hex)))) (omega arith)
    ]

some_ok : {X : Type 0} (b : Bool) (o : Option X) (y : X) → cond b o None ≡ Some y → (b ≡ true) × (o ≡ Some y)
some_ok true o y e = (refl, e)
some_ok false o y e = absurd cc

some_is : {X : Type 0} (x y : X) → Some x ≡ Some y → x ≡ y
some_is x y e = cc

simple_small : (hex xs : List ℕ) → parsed_simple hex ≡ Some xs → (i : ℕ) → get_or xs i 0 < 256
simple_small hex xs e i =
    let s = some_ok (eqb (length hex) 32 && list_all is_hex_digit hex) (Some (by_index 16 (byte_of_digits hex))) xs e in
    subst (λ (ys : List ℕ). get_or ys i 0 < 256) (some_is _ _ s.1) (byte_small hex (both _ _ s.0).1 i)

braced_small : (text xs : List ℕ) → parsed_braced text ≡ Some xs → (i : ℕ) → get_or xs i 0 < 256
braced_small text xs e =
    let s = some_ok _ (parsed_hyphenated (take 36 (drop 1 text))) xs e in
    let h = some_ok (eqb (length (take 36 (drop 1 text))) 36 && has_hyphens (take 36 (drop 1 text))) (parsed_simple (digits_of (take 36 (drop 1 text)))) xs s.1 in
    simple_small (digits_of (take 36 (drop 1 text))) xs h.1

number_small : (xs : List ℕ) → ((i : ℕ) → get_or xs i 0 < 256) → from_be_bytes w128 xs < 2 ^ 128
number_small xs fits =
    omega (arith, fits 0, fits 1, fits 2, fits 3, fits 4, fits 5, fits 6, fits 7, fits 8, fits 9, fits 10, fits 11, fits 12, fits 13, fits 14, fits 15)

code_small : (text : List ℕ) (n : ℕ) → guid_of text ≡ Some n → n < 2 ^ 128
code_small text n e = by (parsed_braced text) refl e
  where
    by : (o : Option (List ℕ)) → parsed_braced text ≡ o → option_map (from_be_bytes w128) o ≡ Some n → n < 2 ^ 128
    by None is h = absurd cc
    by (Some xs) is h = subst (λ k. k < 2 ^ 128) (some_is _ _ h) (number_small xs (braced_small text xs is))

abbrev checked : List ℕ → ℕ → Option ℕ
checked text n = cond (bytes_eq (guid_text n) text) (Some n) None

-- a code that is read is printed so
pub code_is : (text : List ℕ) (n : ℕ) → code_in text ≡ Some n → (guid_text n ≡ text) × (n < 2 ^ 128)
unfolding code_in
code_is text n e = by (guid_of text) refl e
  where
    by : (o : Option ℕ) → guid_of text ≡ o → option_and_then (checked text) o ≡ Some n → (guid_text n ≡ text) × (n < 2 ^ 128)
    by None is h = absurd cc
    by (Some m) is h =
        let s = some_ok (bytes_eq (guid_text m) text) (Some m) n h in
        let same : m ≡ n = some_is _ _ s.1 in
        (ap guid_text (sym same) ∙ (bytes_eq-Decides (guid_text m) text).0 s.0, subst (λ k. k < 2 ^ 128) same (code_small text m is))

-- a code that is printed is read
pub code_again : (n : ℕ) → n < 2 ^ 128 → code_in (guid_text n) ≡ Some n
unfolding code_in
code_again n lt =
    let same : bytes_eq (guid_text n) (guid_text n) ≡ true = (bytes_eq-Decides (guid_text n) (guid_text n)).1 refl in
    ap (option_and_then (checked (guid_text n))) (guid_of-guid_text n lt) ∙ ap (λ b. cond b (Some n) None) same

pub code_utf8 : (n : ℕ) → IsUtf8 (guid_text n)
code_utf8 n = IsUtf8-from_ascii (guid_text n) (braced_ascii upper (to_be_bytes w128 n) (inr refl))

-- what isn't UTF-8 is no code
pub no_code : (text : List ℕ) → is_utf8 text ≡ false → code_in text ≡ None
unfolding code_in
no_code text e = by (guid_of text)
  where
    by : (o : Option ℕ) → option_and_then (checked text) o ≡ None
    by None = refl
    by (Some n) =
        elim (cases_Bool (bytes_eq (guid_text n) text)) [
          | inl same ↦ let u = ap is_utf8 ((bytes_eq-Decides (guid_text n) text).0 same) in let t = is_utf8-from_IsUtf8 (guid_text n) (code_utf8 n) in absurd (let z : ⊥ = cc in z)
          | inr apart ↦ ap (λ b. cond b (Some n) None) apart
        ]
