-- Texts that are put behind one another in an array, and ASCII bytes.
use Rattle.std.proofs.Common.{◌≡◌, ℕ, zero, suc, ◌+◌, ◌-◌, ◌≤◌, ◌<◌, true, List, [], ◌∷◌, ◌++◌, map, take, length, sym, ap, ◌∙◌, arith, IsUtf8}
use Rattle.std.specs.Char.{to_ascii_lowercase}
use Rattle.std.specs.Str.{is_utf8, IsAscii}
use Rattle.std.proofs.lemmas.List.{length-map}
use Rattle.std.proofs.lemmas.Slice.{take-put_mid, take-put_mid_below, between-put_mid}
use Rattle.std.proofs.lemmas.Str.{IsUtf8-append, IsUtf8-from_is_utf8, is_utf8-from_IsUtf8}
use borrow.Rule.Slice.PartMut.{mid_of, put_mid, mid_len, same_len_mid}
use Rattle.mi_text.specs.Fold.{folded}
use Rattle.mi_base.proofs.FoldLemmas.{utf8-folded}

-- ---- a text that is put behind the first bytes

pub placed : (bytes ys text : List ℕ) (start end : ℕ) → start ≤ length bytes → end ≡ start + length text → ys ≡ text → take end (put_mid start (end - start) bytes ys) ≡ take start bytes ++ text
placed bytes ys text start end room long is = ap (λ (t : List ℕ). take end (put_mid start (end - start) bytes t)) is ∙ take-put_mid start (end - start) bytes text end long room

-- and once its letters are lowered
pub lowered : (bytes ys zs text : List ℕ) (start end : ℕ) → end ≤ length bytes → end ≡ start + length text → ys ≡ text → zs ≡ map to_ascii_lowercase (mid_of start (end - start) (put_mid start (end - start) bytes ys))
    → take end (put_mid start (end - start) (put_mid start (end - start) bytes ys) zs) ≡ take start bytes ++ folded text
lowered bytes ys zs text start end room long is low =
    let whole_bytes : List ℕ = put_mid start (end - start) bytes ys in
    let size : length text ≡ end - start = omega (arith, long) in
    let part : zs ≡ folded text = low ∙ ap folded (ap (λ (t : List ℕ). mid_of start (end - start) (put_mid start (end - start) bytes t)) is ∙ between-put_mid start (end - start) bytes text end (omega (arith, room, long)) size) in
    let whole : length whole_bytes ≡ length bytes = same_len_mid start (end - start) bytes ys (ap length is ∙ size ∙ sym (mid_len start end bytes room)) in
    let lower_size : length zs ≡ length text = ap length part ∙ length-map text to_ascii_lowercase in
    take-put_mid start (end - start) whole_bytes zs end (omega (arith, long, lower_size)) (omega (arith, whole, room, long))
    ∙ ap (λ (front : List ℕ). front ++ zs) (take-put_mid_below start (end - start) bytes ys start (omega arith) (omega (arith, room, long)))
    ∙ ap (λ (t : List ℕ). take start bytes ++ t) part

pub utf8_behind : (old text : List ℕ) → is_utf8 old ≡ true → IsUtf8 text → is_utf8 (old ++ text) ≡ true
utf8_behind old text first second = is_utf8-from_IsUtf8 (old ++ text) (IsUtf8-append old text (IsUtf8-from_is_utf8 old first) second)

pub utf8_folded_behind : (old text : List ℕ) → is_utf8 old ≡ true → IsUtf8 text → is_utf8 (old ++ folded text) ≡ true
utf8_folded_behind old text first second = utf8_behind old (folded text) first (utf8-folded text second)

-- ---- ASCII bytes

ascii_more : (x : ℕ) (xs : List ℕ) → x < 128 → IsAscii xs → IsAscii (x ∷ xs)
ascii_more x xs low all zero = low
ascii_more x xs low all (suc i) = all i

ascii_none : IsAscii []
ascii_none i = omega arith

pub key_kind_ascii : (root : ℕ) → root < 10 → IsAscii (107 ∷ 47 ∷ (48 + root) ∷ [])
key_kind_ascii root small = ascii_more 107 (47 ∷ (48 + root) ∷ []) (omega arith) (ascii_more 47 ((48 + root) ∷ []) (omega arith) (ascii_more (48 + root) [] (omega (arith, small)) ascii_none))

pub value_kind_ascii : (root a b c d : ℕ) → root < 10 → a < 128 → b < 128 → c < 128 → d < 128 → IsAscii (118 ∷ 47 ∷ (48 + root) ∷ a ∷ b ∷ c ∷ d ∷ [])
value_kind_ascii root a b c d small low_a low_b low_c low_d =
    let digits = ascii_more a (b ∷ c ∷ d ∷ []) low_a (ascii_more b (c ∷ d ∷ []) low_b (ascii_more c (d ∷ []) low_c (ascii_more d [] low_d ascii_none))) in
    ascii_more 118 (47 ∷ (48 + root) ∷ a ∷ b ∷ c ∷ d ∷ []) (omega arith) (ascii_more 47 ((48 + root) ∷ a ∷ b ∷ c ∷ d ∷ []) (omega arith) (ascii_more (48 + root) (a ∷ b ∷ c ∷ d ∷ []) (omega (arith, small)) digits))
