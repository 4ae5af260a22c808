-- The product's code: it isn't the system's, and a lawful package has one.
use Rattle.std.proofs.Common.{◌≡◌, ℕ, zero, suc, ◌+◌, ◌*◌, ◌^◌, ◌<◌, Bool, true, false, cond, not, eqb, ◌&&◌, List, [], ◌∷◌, ◌++◌, length, get_or, take, drop, codes, Option, Some, None, refl, sym, ap, subst, ◌∙◌, arith, inl, inr, append_assoc}
use Rattle.std.specs.Prelude.{option_map, unwrap_or, ◌==◌}
use Rattle.std.specs.Int.{w128, from_be_bytes}
use Rattle.std.specs.List.{list_all}
use Rattle.std.proofs.lemmas.Bool.{cases_lt}
use Rattle.std.proofs.lemmas.Bool.Decides.{nat_tests}
use Rattle.std.proofs.lemmas.List.{get_or_past, append_cancel_left}
use Rattle.uuid.specs.Text.{by_index, is_hex_digit, value_of, byte_of_digits, parsed_simple, has_hyphens, digits_of, parsed_hyphenated, parsed_braced}
use Rattle.uuid.proofs.TextLemmas.{by_index_at, by_index_length}
use Rattle.mi_text.specs.Maps.{same_name}
use Rattle.mi_text.specs.Guid.{guid_of, guid_text}
use Rattle.mi_text.proofs.GuidLemmas.{guid_of-guid_text}
use Rattle.mi_text.proofs.MapLemmas.{from_same}
use Rattle.mi_base.specs.Names.{client_name}
use Rattle.mi_rows.specs.Texts.{is_zero_code, is_product_code}
use Rattle.mi_schema.specs.TableRows.{Rows, table_value, product_code}
use Rattle.mi_laws.specs.PlainLaws.{HasProductCode}

-- ---- a code that is read is below 2^128

both : (a b : Bool) → (a && b) ≡ true → (a ≡ true) × (b ≡ true)
both true b e = (refl, e)
both false b e = absurd cc

some_ok : {X : Type 0} (b : Bool) (o : Option X) (y : X) → cond b o None ≡ Some y → (b ≡ true) × (o ≡ Some y)
some_ok true o y e = (refl, e)
some_ok false o y e = absurd cc

some_is : {X : Type 0} (x y : X) → Some x ≡ Some y → x ≡ y
some_is x y e = cc

digit_small : (c : ℕ) → is_hex_digit c ≡ true → value_of c < 16
digit_small c e = grind (arith, nat_tests)

each_small : (hex : List ℕ) → list_all is_hex_digit hex ≡ true → (i : ℕ) → value_of (get_or hex i 0) < 16
each_small [] e i = omega arith
each_small (c ∷ hex) e zero = digit_small c (both _ _ e).0
each_small (c ∷ hex) e (suc i) = each_small hex (both _ _ e).1 i

bytes_small : (hex : List ℕ) → list_all is_hex_digit hex ≡ true → (i : ℕ) → get_or (by_index 16 (byte_of_digits hex)) i 0 < 256
bytes_small hex e i =
    elim (cases_lt i 16) [
      | inl within ↦ let a = each_small hex e (2 * i) in let b = each_small hex e (2 * i + 1) in rw (by_index_at 16 (byte_of_digits hex) i 0 within) (omega arith)
      | inr past ↦ rw (get_or_past (by_index 16 (byte_of_digits hex)) i 0 (omega (arith, by_index_length 16 (byte_of_digits hex)))) (omega arith)
    ]

number_small : (xs : List ℕ) → ((i : ℕ) → get_or xs i 0 < 256) → from_be_bytes w128 xs < 2 ^ 128
number_small xs fits =
    omega (arith, fits 0, fits 1, fits 2, fits 3, fits 4, fits 5, fits 6, fits 7, fits 8, fits 9, fits 10, fits 11, fits 12, fits 13, fits 14, fits 15)

simple_small : (hex xs : List ℕ) → parsed_simple hex ≡ Some xs → from_be_bytes w128 xs < 2 ^ 128
simple_small hex xs e =
    let s = some_ok (eqb (length hex) 32 && list_all is_hex_digit hex) (Some (by_index 16 (byte_of_digits hex))) xs e in
    subst (λ (ys : List ℕ). from_be_bytes w128 ys < 2 ^ 128) (some_is _ _ s.1) (number_small (by_index 16 (byte_of_digits hex)) (bytes_small hex (both _ _ s.0).1))

braced_small : (text xs : List ℕ) → parsed_braced text ≡ Some xs → from_be_bytes w128 xs < 2 ^ 128
braced_small text xs e =
    let s = some_ok _ (parsed_hyphenated (take 36 (drop 1 text))) xs e in
    let h = some_ok (eqb (length (take 36 (drop 1 text))) 36 && has_hyphens (take 36 (drop 1 text))) (parsed_simple (digits_of (take 36 (drop 1 text)))) xs s.1 in
    simple_small (digits_of (take 36 (drop 1 text))) xs h.1

pub code_small : (text : List ℕ) (n : ℕ) → guid_of text ≡ Some n → n < 2 ^ 128
code_small text n e = by (parsed_braced text) refl e
  where
    by : (o : Option (List ℕ)) → parsed_braced text ≡ o → option_map (from_be_bytes w128) o ≡ Some n → n < 2 ^ 128
    by None is h = absurd cc
    by (Some xs) is h = subst (λ k. k < 2 ^ 128) (some_is _ _ h) (braced_small text xs is)

-- ---- another code is another client

-- two codes that are printed alike are one
pub one_code : (n k : ℕ) → n < 2 ^ 128 → k < 2 ^ 128 → guid_text n ≡ guid_text k → n ≡ k
one_code n k n_small k_small e = some_is n k (sym (guid_of-guid_text n n_small) ∙ ap guid_of e ∙ guid_of-guid_text k k_small)

pub one_client : (id n k : ℕ) → client_name id n ≡ client_name id k → guid_text n ≡ guid_text k
unfolding client_name
one_client id n k e = append_cancel_left (codes "c/" ++ guid_text id) (guid_text n) (guid_text k) (append_assoc (codes "c/") (guid_text id) (guid_text n) ∙ e ∙ sym (append_assoc (codes "c/") (guid_text id) (guid_text k)))

-- a product code that isn't all zeros is a number from 1 to 2^128 - 1
pub code_there : (text : List ℕ) → is_product_code text ≡ true → (0 < unwrap_or (guid_of text) 0) × (unwrap_or (guid_of text) 0 < 2 ^ 128)
code_there text is = by (guid_of text) refl is
  where
    by : (o : Option ℕ) → guid_of text ≡ o → not (is_zero_code o) ≡ true → (0 < unwrap_or o 0) × (unwrap_or o 0 < 2 ^ 128)
    by None e is = cc
    by (Some n) e is = (some n is, code_small text n e)
      where
        some : (n : ℕ) → not (n == 0) ≡ true → 0 < n
        some n is = grind (arith, nat_tests)

-- the product isn't the client that the system is
pub other_client : (id : ℕ) (rows : Rows) → HasProductCode rows → same_name (client_name id (product_code rows)) (client_name id 0) ≡ false
unfolding product_code
other_client id rows has =
    let code = unwrap_or (guid_of (table_value rows (codes "ProductCode"))) 0 in
    let there = code_there (table_value rows (codes "ProductCode")) has in
    elim (same_name (client_name id code) (client_name id 0)) as (λ b. same_name (client_name id code) (client_name id 0) ≡ b → b ≡ false) [
      | true ↦ λ e.
          let zero_code : code ≡ 0 = one_code code 0 there.1 (omega arith) (one_client id code 0 (from_same _ _ e)) in
          absurd (omega (arith, zero_code, there.0))
      | false ↦ λ e. refl
    ] refl
