-- What consists of bytes: numbers, texts in UTF-8, and what is joined of such.
use Rattle.std.proofs.Common.{◌≡◌, ℕ, zero, suc, ◌+◌, ◌<◌, ◌≤◌, ◌/◌, true, ltb, List, [], ◌∷◌, ◌++◌, refl, sym, ap, ◌∙◌, arith, inl, inr, ◌⊎◌}
use Rattle.std.specs.List.{flat_map, AllByRecursion}
use Rattle.std.specs.Int.{Width, byte_len, byte_at, bytes_high_first, to_be_bytes}
use Rattle.std.specs.Str.{IsUtf8}
use Rattle.std.proofs.lemmas.Bool.{cases_lt, lt-ltb, le-ltb}
use Rattle.std.proofs.lemmas.List.Folds.{list_all-append}
use Rattle.std.proofs.Math.Utf8.{encode, encodes, scalar, scalars, scalar_cases, next}
pub use Rattle.mi_text.proofs.ByteLemmas.{both, and_true, by_index, from_index}
use Rattle.mi_text.specs.Bytes.{are_bytes}

pub bytes-append : (xs ys : List ℕ) → are_bytes xs ≡ true → are_bytes ys ≡ true → are_bytes (xs ++ ys) ≡ true
bytes-append xs ys p q = list_all-append (λ b. ltb b 256) xs ys ∙ and_true _ _ p q

pub bytes_front : (xs ys : List ℕ) → are_bytes (xs ++ ys) ≡ true → (are_bytes xs ≡ true) × (are_bytes ys ≡ true)
bytes_front xs ys e = both _ _ (sym (list_all-append (λ b. ltb b 256) xs ys) ∙ e)

byte_below : (k n : ℕ) → byte_at k n < 256
byte_below zero n = omega arith
byte_below (suc k) n = omega arith

high_bytes : (k n : ℕ) → are_bytes (bytes_high_first k n) ≡ true
high_bytes zero n = refl
high_bytes (suc k) n = and_true _ _ (lt-ltb _ 256 (byte_below k n)) (high_bytes k n)

pub number_bytes : (w : Width) (n : ℕ) → are_bytes (to_be_bytes w n) ≡ true
number_bytes w n = high_bytes (byte_len w) n

one_byte : (n : ℕ) (ns : List ℕ) → n < 256 → are_bytes ns ≡ true → are_bytes (n ∷ ns) ≡ true
one_byte n ns h all = and_true _ _ (lt-ltb n 256 h) all

encode_bytes : (c : ℕ) → scalar c ≡ true → are_bytes (encode c) ≡ true
unfolding encode
encode_bytes c e = by (scalar_cases c e) (cases_lt c 128) (cases_lt c 2048) (cases_lt c 65536)
  where
    below : (c < 55296) ⊎ ((57344 ≤ c) × (c < 1114112)) → c < 1114112
    below (inl h) = omega arith
    below (inr h) = h.1

    by : (c < 55296) ⊎ ((57344 ≤ c) × (c < 1114112)) → (c < 128) ⊎ (128 ≤ c) → (c < 2048) ⊎ (2048 ≤ c) → (c < 65536) ⊎ (65536 ≤ c) → are_bytes (encode c) ≡ true
    by s (inl a) _ _ = rw (lt-ltb c 128 a) (one_byte c [] (omega arith) refl)
    by s (inr a) (inl b) _ = rw (le-ltb c 128 a, lt-ltb c 2048 b) (one_byte (192 + c / 64) (next c ∷ []) (omega arith) (one_byte (next c) [] (omega arith) refl))
    by s (inr a) (inr b) (inl d) = rw (le-ltb c 128 a, le-ltb c 2048 b, lt-ltb c 65536 d) (one_byte (224 + c / 4096) (next (c / 64) ∷ next c ∷ []) (omega arith) (one_byte (next (c / 64)) (next c ∷ []) (omega arith) (one_byte (next c) [] (omega arith) refl)))
    by s (inr a) (inr b) (inr d) = let small = below s in
        rw (le-ltb c 128 a, le-ltb c 2048 b, le-ltb c 65536 d) (one_byte (240 + c / 262144) (next (c / 4096) ∷ next (c / 64) ∷ next c ∷ []) (omega arith) (one_byte (next (c / 4096)) (next (c / 64) ∷ next c ∷ []) (omega arith) (one_byte (next (c / 64)) (next c ∷ []) (omega arith) (one_byte (next c) [] (omega arith) refl))))

pub text_bytes : (bytes : List ℕ) → IsUtf8 bytes → are_bytes bytes ≡ true
text_bytes bytes u = ap are_bytes (sym (u.1).1) ∙ all u.0 (u.1).0
  where
    all : (cs : List ℕ) → scalars cs ≡ true → are_bytes (encodes cs) ≡ true
    all [] e = refl
    all (c ∷ cs) e = bytes-append (encode c) (encodes cs) (encode_bytes c (both _ _ e).0) (all cs (both _ _ e).1)

pub joined_bytes : {X : Type 0} (write : X → List ℕ) (Right : X → Type 0) → ((x : X) → Right x → are_bytes (write x) ≡ true) → (xs : List X) → AllByRecursion Right xs → are_bytes (flat_map write xs) ≡ true
joined_bytes write Right h [] all = refl
joined_bytes write Right h (x ∷ xs) all = bytes-append (write x) (flat_map write xs) (h x all.0) (joined_bytes write Right h xs all.1)
