-- UTF-8 of unescaped and escaped fields, and of the parts of a line.
use Rattle.std.proofs.Common.{◌≡◌, ℕ, suc, ◌+◌, ◌<◌, ◌≤◌, Bool, true, false, ◌&&◌, List, [], ◌∷◌, ◌++◌, length, map, drop, get_or, refl, sym, ap, subst, ◌∙◌, arith, inl, inr, append-nil, append_assoc, lit<}
use Rattle.std.specs.List.{join_with_byte, AllByRecursion}
use Rattle.std.specs.Prelude.{encode_utf8, encode_utf8_all}
use Rattle.std.specs.Str.{IsUtf8, all_scalars}
use Rattle.std.specs.Char.{IsScalar}
use Rattle.std.proofs.lemmas.Bool.{cases_lt}
use Rattle.std.proofs.lemmas.Bool.Decides.{nat_tests}
use Rattle.std.proofs.lemmas.List.{map-append, length-append, take_at, drop_at}
use Rattle.std.proofs.lemmas.List.Splits.{join_with_byte-slice_split}
use Rattle.std.proofs.lemmas.Str.{IsUtf8-append, IsUtf8-encode, IsUtf8-nil, IsUtf8-from_ascii, encode_ascii, inside_one, IsUtf8-take, IsUtf8-drop, IsCharBoundary-before_ascii, IsCharBoundary-after_ascii}
use Rattle.std.proofs.lemmas.Str.Ascii.{IsAscii-cons, IsAscii-nil}
use Rattle.mi_idt.specs.Fields.{fields_of, unescaped}
use Rattle.mi_idt.specs.Written.{escaped}

map_same : (f : ℕ → ℕ) (xs : List ℕ) → ((k : ℕ) → k < length xs → f (get_or xs k 0) ≡ get_or xs k 0) → map f xs ≡ xs
map_same f [] same = refl
map_same f (x ∷ xs) same = (λ i. same 0 (omega arith) i ∷ map_same f xs (λ k h. same (suc k) (omega arith)) i)

and_parts : (a b : Bool) → (a && b) ≡ true → (a ≡ true) × (b ≡ true)
and_parts true b e = (refl, e)
and_parts false b e = absurd cc

module _ (f : ℕ → ℕ) (low : (b : ℕ) → b < 128 → f b < 128) (high : (b : ℕ) → 128 ≤ b → f b ≡ b) where
  -- a character past ASCII stays as it is
  wide : (c : ℕ) → 128 ≤ c → map f (encode_utf8 c) ≡ encode_utf8 c
  wide c past = map_same f (encode_utf8 c) (λ k h. high (get_or (encode_utf8 c) k 0) (at_least k h))
    where
      at_least : (k : ℕ) → k < length (encode_utf8 c) → 128 ≤ get_or (encode_utf8 c) k 0
      at_least k h = elim (cases_lt (get_or (encode_utf8 c) k 0) 128) [
        | inl small ↦ let same = inside_one c [] (encode_utf8 c) k (sym (append-nil (encode_utf8 c))) h small in absurd (omega arith)
        | inr large ↦ large
      ]

  one : (c : ℕ) → IsScalar c → IsUtf8 (map f (encode_utf8 c))
  one c valid = elim (cases_lt c 128) [
    | inl small ↦
        let is : map f (encode_utf8 c) ≡ f c ∷ [] = ap (map f) (encode_ascii c small) in
        subst IsUtf8 (sym is) (IsUtf8-from_ascii (f c ∷ []) (IsAscii-cons (f c) [] (low c small) IsAscii-nil))
    | inr large ↦ subst IsUtf8 (sym (wide c large)) (IsUtf8-encode c valid)
  ]

  each : (cs : List ℕ) → all_scalars cs ≡ true → IsUtf8 (map f (encode_utf8_all cs))
  each [] e = IsUtf8-nil
  each (c ∷ cs) e =
      let parts = and_parts _ (all_scalars cs) e in
      subst IsUtf8 (sym (map-append f (encode_utf8 c) (encode_utf8_all cs))) (IsUtf8-append (map f (encode_utf8 c)) (map f (encode_utf8_all cs)) (one c parts.0) (each cs parts.1))

  pub changed : (bs : List ℕ) → IsUtf8 bs → IsUtf8 (map f bs)
  changed bs u = subst (λ (x : List ℕ). IsUtf8 (map f x)) u.1.1 (each u.0 u.1.0)

unescaped_low : (b : ℕ) → b < 128 → unescaped b < 128
unescaped_low b h = grind (arith, nat_tests)

unescaped_high : (b : ℕ) → 128 ≤ b → unescaped b ≡ b
unescaped_high b h = grind (arith, nat_tests)

escaped_low : (b : ℕ) → b < 128 → escaped b < 128
escaped_low b h = grind (arith, nat_tests)

escaped_high : (b : ℕ) → 128 ≤ b → escaped b ≡ b
escaped_high b h = grind (arith, nat_tests)

pub IsUtf8-unescaped : (bs : List ℕ) → IsUtf8 bs → IsUtf8 (map unescaped bs)
IsUtf8-unescaped = changed unescaped unescaped_low unescaped_high

pub IsUtf8-escaped : (bs : List ℕ) → IsUtf8 bs → IsUtf8 (map escaped bs)
IsUtf8-escaped = changed escaped escaped_low escaped_high

-- ---- the parts of a line

utf8_tab : IsUtf8 (9 ∷ [])
utf8_tab = IsUtf8-from_ascii (9 ∷ []) (IsAscii-cons 9 [] (lit< tt) IsAscii-nil)

tab_at : (x rest : List ℕ) → get_or (x ++ 9 ∷ rest) (length x) 0 ≡ 9
tab_at [] rest = refl
tab_at (b ∷ x) rest = tab_at x rest

first_part : (x rest : List ℕ) → IsUtf8 (x ++ 9 ∷ rest) → IsUtf8 x
first_part x rest u =
    let within : length x < length (x ++ 9 ∷ rest) = omega (arith, length-append x (9 ∷ rest)) in
    let low : get_or (x ++ 9 ∷ rest) (length x) 0 < 128 = omega (arith, tab_at x rest) in
    subst IsUtf8 (take_at x (9 ∷ rest) (length x) refl) (IsUtf8-take (x ++ 9 ∷ rest) (length x) u (IsCharBoundary-before_ascii (x ++ 9 ∷ rest) (length x) within low))

other_parts : (x rest : List ℕ) → IsUtf8 (x ++ 9 ∷ rest) → IsUtf8 rest
other_parts x rest u =
    let within : length x < length (x ++ 9 ∷ rest) = omega (arith, length-append x (9 ∷ rest)) in
    let low : get_or (x ++ 9 ∷ rest) (length x) 0 < 128 = omega (arith, tab_at x rest) in
    let cut : drop (length x + 1) (x ++ 9 ∷ rest) ≡ rest = ap (drop (length x + 1)) (sym (append_assoc x (9 ∷ []) rest)) ∙ drop_at (x ++ 9 ∷ []) rest (length x + 1) (length-append x (9 ∷ [])) in
    subst IsUtf8 cut (IsUtf8-drop (x ++ 9 ∷ rest) (length x + 1) u (IsCharBoundary-after_ascii (x ++ 9 ∷ rest) (length x) u within low))

pub utf8_parts : (parts : List (List ℕ)) → IsUtf8 (join_with_byte 9 parts) → AllByRecursion IsUtf8 parts
utf8_parts [] u = tt
utf8_parts (x ∷ []) u = (u, tt)
utf8_parts (x ∷ y ∷ ys) u = (first_part x (join_with_byte 9 (y ∷ ys)) u, utf8_parts (y ∷ ys) (other_parts x (join_with_byte 9 (y ∷ ys)) u))

pub parts_utf8 : (parts : List (List ℕ)) → AllByRecursion IsUtf8 parts → IsUtf8 (join_with_byte 9 parts)
parts_utf8 [] all = IsUtf8-nil
parts_utf8 (x ∷ []) all = all.0
parts_utf8 (x ∷ y ∷ ys) all = IsUtf8-append x (9 ∷ join_with_byte 9 (y ∷ ys)) all.0 (IsUtf8-append (9 ∷ []) (join_with_byte 9 (y ∷ ys)) utf8_tab (parts_utf8 (y ∷ ys) all.1))

pub utf8_fields : (line : List ℕ) → IsUtf8 line → AllByRecursion IsUtf8 (fields_of line)
utf8_fields line u = utf8_parts (fields_of line) (subst IsUtf8 (sym (join_with_byte-slice_split 9 line)) u)
