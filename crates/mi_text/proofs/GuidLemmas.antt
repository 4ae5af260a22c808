-- A printed code is read as itself.
use Rattle.std.proofs.Common.{◌≡◌, ◌<◌, ◌^◌, ◌%◌, ◌/◌, ℕ, suc, zero, List, length, Some, refl, sym, ap, ◌∙◌, inr, arith, length-append}
use Rattle.std.specs.Prelude.{option_map, ◌∷◌, []}
use Rattle.std.specs.Int.{w128, from_be_bytes, to_be_bytes, byte_at, bytes_high_first}
use Rattle.std.specs.List.{All}
use Rattle.uuid.specs.Text.{parsed, parsed_braced, braced_text, hyphenated_text, upper}
use Rattle.uuid.proofs.TextLemmas.{by_index_length}
use Rattle.uuid.proofs.RoundTrips.{parses_braced}
use Rattle.uuid.proofs.OrderLemmas.{from_be_bytes-to_be_bytes_16}
use Rattle.mi_text.specs.Guid.{guid_of, guid_text}

-- a text of 38 characters has no other form than the braced one
pub braced_at_38 : (text : List ℕ) → length text ≡ 38 → parsed text ≡ parsed_braced text
braced_at_38 text e = rw e refl

length-braced : (letter : ℕ) (xs : List ℕ) → length (braced_text letter xs) ≡ 38
length-braced letter xs =
    let inner : length (hyphenated_text letter xs) ≡ 36 = by_index_length 36 _ in
    omega (arith, length-append (hyphenated_text letter xs) (125 ∷ []))

-- a printed code has 38 characters
pub length-guid_text : (n : ℕ) → length (guid_text n) ≡ 38
length-guid_text n = length-braced upper (to_be_bytes w128 n)

rem_small : (m : ℕ) → m % 256 < 256
rem_small m = omega arith

byte_small : (i n : ℕ) → byte_at i n < 256
byte_small zero n = rem_small n
byte_small (suc i) n = rem_small (n / 256 ^ suc i)

all_small : (k n : ℕ) → All (λ b. b < 256) (bytes_high_first k n)
all_small zero n i d lt = absurd (let z : ⊥ = omega arith in z)
all_small (suc k) n zero d lt = byte_small k n
all_small (suc k) n (suc i) d lt = all_small k n i d (omega arith)

bytes_fit : (n : ℕ) → All (λ b. b < 256) (to_be_bytes w128 n)
bytes_fit n = all_small 16 n

pub guid_of-guid_text : (n : ℕ) → n < 2 ^ 128 → guid_of (guid_text n) ≡ Some n
guid_of-guid_text n fits =
    ap (option_map (from_be_bytes w128)) (sym (braced_at_38 (guid_text n) (length-guid_text n)) ∙ sym (parses_braced upper (to_be_bytes w128 n) (inr refl) refl (bytes_fit n)))
    ∙ ap Some (from_be_bytes-to_be_bytes_16 n fits)
