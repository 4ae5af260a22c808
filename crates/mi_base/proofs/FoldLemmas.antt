-- Folding keeps what makes a text a key, a name or a path.
use Rattle.std.proofs.Common.{◌≡◌, ℕ, suc, ◌+◌, ◌/◌, ◌≤◌, ◌<◌, ◌⊎◌, Bool, true, false, cond, not, eqb, ltb, leb, ◌&&◌, ◌||◌, List, [], ◌∷◌, ◌++◌, length, map, refl, sym, ap, ◌∙◌, arith, inl, inr}
use Rattle.std.specs.Prelude.{nat_lt, nat_le}
use Rattle.std.specs.List.{slice_split, onto_first, list_all}
use Rattle.std.specs.Str.{bytes_eq, is_utf8, IsUtf8}
use Rattle.std.specs.Char.{to_ascii_lowercase}
use Rattle.std.proofs.lemmas.Bool.{cases_lt, ltb-true, ltb-false, lt-ltb, le-ltb, leb-true, le-leb}
use Rattle.std.proofs.lemmas.Bool.Decides.{nat_tests}
use Rattle.std.proofs.lemmas.Slice.Eq.{bytes_eq-Decides}
use Rattle.std.proofs.lemmas.Str.{is_utf8-from_IsUtf8, encode_ascii}
use Rattle.std.proofs.lemmas.Str.Ascii.{lowercase_ascii}
use Rattle.std.proofs.Math.Utf8.{encode, encodes, scalar, scalars, low_scalar, next}
use Rattle.mi_text.specs.Fold.{folded}
use Rattle.mi_text.specs.Path.{good_byte, good_part, is_backslash, is_part, joined, is_file_path, is_folder_path}
use Rattle.mi_text.proofs.PathLemmas.{IsFolder, IsFile, drive, all_parts, folder_is, folder_path, file_is, file_path}
use Rattle.mi_base.specs.Limits.{is_folded, has_no_zero, has_whole_parts, is_key, is_value_name, is_variable_name}
use Rattle.mi_base.specs.Records.{drive_shown, is_inner_folder, names_file, names_folder}
use Rattle.mi_base.proofs.ByteLemmas.{both, and_true}

-- ---- one byte

-- a byte that isn't an upper-case letter stays, and an upper-case letter becomes another byte that isn't one
pub data Folds (b : ℕ) : Type 0 where
  Stays : to_ascii_lowercase b ≡ b → Folds b
  Lowers : 65 ≤ b → b < 91 → to_ascii_lowercase b ≡ b + 32 → Folds b

folds : (b : ℕ) → Folds b
folds b =
    elim (cases_lt b 65) [
      | inl low ↦ Stays (rw (lt-ltb b 65 low) refl)
      | inr up ↦ elim (cases_lt b 91) [
        | inl letter ↦ Lowers up letter (rw (le-ltb b 65 up, lt-ltb b 91 letter) refl)
        | inr high ↦ Stays (rw (le-ltb b 65 up, le-ltb b 91 high) refl)
      ]
    ]

lower_folded : (b : ℕ) → to_ascii_lowercase (to_ascii_lowercase b) ≡ to_ascii_lowercase b
lower_folded b = by (folds b)
  where
    by : Folds b → to_ascii_lowercase (to_ascii_lowercase b) ≡ to_ascii_lowercase b
    by (Stays e) = ap to_ascii_lowercase e
    by (Lowers up low e) = ap to_ascii_lowercase e ∙ rw (le-ltb (b + 32) 65 (omega arith), le-ltb (b + 32) 91 (omega arith)) (sym e)

-- a byte below the letters is met by itself alone
same_low : (n : ℕ) → n < 65 → (b : ℕ) → eqb (to_ascii_lowercase b) n ≡ eqb b n
same_low n low b = by (folds b)
  where
    by : Folds b → eqb (to_ascii_lowercase b) n ≡ eqb b n
    by (Stays e) = ap (λ k. eqb k n) e
    by (Lowers up down e) = let x : eqb (b + 32) n ≡ false = grind (arith, nat_tests) in let y : eqb b n ≡ false = grind (arith, nat_tests) in ap (λ k. eqb k n) e ∙ x ∙ sym y

-- and so is one between the upper and the lower letters, or past the lower ones
same_mid : (n : ℕ) → 91 ≤ n → (n < 97) ⊎ (122 < n) → (b : ℕ) → eqb (to_ascii_lowercase b) n ≡ eqb b n
same_mid n up out b = by (folds b) out
  where
    by : Folds b → (n < 97) ⊎ (122 < n) → eqb (to_ascii_lowercase b) n ≡ eqb b n
    by (Stays e) o = ap (λ k. eqb k n) e
    by (Lowers low down e) (inl o) = let x : eqb (b + 32) n ≡ false = grind (arith, nat_tests) in let y : eqb b n ≡ false = grind (arith, nat_tests) in ap (λ k. eqb k n) e ∙ x ∙ sym y
    by (Lowers low down e) (inr o) = let x : eqb (b + 32) n ≡ false = grind (arith, nat_tests) in let y : eqb b n ≡ false = grind (arith, nat_tests) in ap (λ k. eqb k n) e ∙ x ∙ sym y

same_backslash : (b : ℕ) → is_backslash (to_ascii_lowercase b) ≡ is_backslash b
same_backslash b = same_mid 92 (omega arith) (inl (omega arith)) b

same_good : (b : ℕ) → good_byte (to_ascii_lowercase b) ≡ good_byte b
same_good b =
    rw (same_low 47 (omega arith) b, same_low 58 (omega arith) b, same_low 42 (omega arith) b, same_low 63 (omega arith) b, same_low 34 (omega arith) b, same_low 60 (omega arith) b, same_low 62 (omega arith) b, same_mid 124 (omega arith) (inr (omega arith)) b)
    (ap (λ t. t && not (eqb b 47 || eqb b 58 || eqb b 42 || eqb b 63 || eqb b 34 || eqb b 60 || eqb b 62 || eqb b 124)) (same_printed (folds b)))
  where
    same_printed : Folds b → nat_le 32 (to_ascii_lowercase b) ≡ nat_le 32 b
    same_printed (Stays e) = ap (nat_le 32) e
    same_printed (Lowers up down e) = let x : nat_le 32 (b + 32) ≡ true = grind (arith, nat_tests) in let y : nat_le 32 b ≡ true = grind (arith, nat_tests) in ap (nat_le 32) e ∙ x ∙ sym y

-- ---- lists of bytes

pub length-folded : (t : List ℕ) → length (folded t) ≡ length t
length-folded [] = refl
length-folded (b ∷ bs) = ap suc (length-folded bs)

pub folded-folded : (t : List ℕ) → folded (folded t) ≡ folded t
folded-folded [] = refl
folded-folded (b ∷ bs) = let e = lower_folded b in let r = folded-folded bs in cc

pub folded-append : (a b : List ℕ) → folded (a ++ b) ≡ folded a ++ folded b
folded-append [] b = refl
folded-append (x ∷ a) b = ap (λ (t : List ℕ). to_ascii_lowercase x ∷ t) (folded-append a b)

pub is_folded-folded : (t : List ℕ) → is_folded (folded t) ≡ true
is_folded-folded t = (bytes_eq-Decides (folded (folded t)) (folded t)).1 (folded-folded t)

all_same : (p : ℕ → Bool) → ((b : ℕ) → p (to_ascii_lowercase b) ≡ p b) → (t : List ℕ) → list_all p (folded t) ≡ list_all p t
all_same p same [] = refl
all_same p same (b ∷ bs) = ap (λ x. x && list_all p (folded bs)) (same b) ∙ ap (λ x. p b && x) (all_same p same bs)

pub zero-folded : (t : List ℕ) → has_no_zero (folded t) ≡ has_no_zero t
zero-folded t = all_same (λ b. not (eqb b 0)) (λ b. ap not (same_low 0 (omega arith) b)) t

onto-folded : (b : ℕ) (parts : List (List ℕ)) → onto_first (to_ascii_lowercase b) (map folded parts) ≡ map folded (onto_first b parts)
onto-folded b [] = refl
onto-folded b (p ∷ ps) = refl

pub split-folded : (t : List ℕ) → slice_split (λ b. eqb b 92) (folded t) ≡ map folded (slice_split (λ b. eqb b 92) t)
split-folded [] = refl
split-folded (b ∷ bs) =
    ap (λ x. cond x ([] ∷ slice_split (λ c. eqb c 92) (folded bs)) (onto_first (to_ascii_lowercase b) (slice_split (λ c. eqb c 92) (folded bs)))) (same_backslash b)
    ∙ elim (eqb b 92) as (λ x. cond x ([] ∷ slice_split (λ c. eqb c 92) (folded bs)) (onto_first (to_ascii_lowercase b) (slice_split (λ c. eqb c 92) (folded bs))) ≡ map folded (cond x ([] ∷ slice_split (λ c. eqb c 92) bs) (onto_first b (slice_split (λ c. eqb c 92) bs)))) [
      | true ↦ ap (λ (ps : List (List ℕ)). [] ∷ ps) (split-folded bs)
      | false ↦ ap (onto_first (to_ascii_lowercase b)) (split-folded bs) ∙ onto-folded b (slice_split (λ c. eqb c 92) bs)
    ]

some-folded : (parts : List (List ℕ)) → list_all (λ part. not (eqb (length part) 0)) (map folded parts) ≡ list_all (λ part. not (eqb (length part) 0)) parts
some-folded [] = refl
some-folded (p ∷ ps) = ap (λ n. not (eqb n 0) && list_all (λ part. not (eqb (length part) 0)) (map folded ps)) (length-folded p) ∙ ap (λ x. not (eqb (length p) 0) && x) (some-folded ps)

pub key-folded : (key : List ℕ) → is_key (folded key) ≡ is_key key
unfolding is_key
key-folded key =
    let parts : has_whole_parts (folded key) ≡ has_whole_parts key = ap (list_all (λ part. not (eqb (length part) 0))) (split-folded key) ∙ some-folded (slice_split (λ b. eqb b 92) key) in
    rw (length-folded key, zero-folded key, parts) refl

pub value_name-folded : (name : List ℕ) → is_value_name (folded name) ≡ is_value_name name
unfolding is_value_name
value_name-folded name = rw (length-folded name, zero-folded name) refl

pub variable_name-folded : (name : List ℕ) → is_variable_name (folded name) ≡ is_variable_name name
unfolding is_variable_name
variable_name-folded name = rw (length-folded name, zero-folded name) refl

-- ---- UTF-8

past_ascii : (b : ℕ) → 128 ≤ b → to_ascii_lowercase b ≡ b
past_ascii b high = rw (le-ltb b 65 (omega arith), le-ltb b 91 (omega arith)) refl

abbrev all_high : List ℕ → Bool
all_high t = list_all (leb 128) t

high_stays : (t : List ℕ) → all_high t ≡ true → folded t ≡ t
high_stays [] e = refl
high_stays (b ∷ bs) e =
    let parts = both (leb 128 b) (all_high bs) e in
    let here = past_ascii b (leb-true 128 b parts.0) in
    let rest = high_stays bs parts.1 in
    cc

high_byte : (b : ℕ) (bs : List ℕ) → 128 ≤ b → all_high bs ≡ true → all_high (b ∷ bs) ≡ true
high_byte b bs le all = and_true _ _ (le-leb 128 b le) all

encode_high : (c : ℕ) → 128 ≤ c → all_high (encode c) ≡ true
unfolding encode
encode_high c high = by (cases_lt c 2048) (cases_lt c 65536)
  where
    by : (c < 2048) ⊎ (2048 ≤ c) → (c < 65536) ⊎ (65536 ≤ c) → all_high (encode c) ≡ true
    by (inl b) _ = rw (le-ltb c 128 high, lt-ltb c 2048 b) (high_byte (192 + c / 64) (next c ∷ []) (omega arith) (high_byte (next c) [] (omega arith) refl))
    by (inr b) (inl d) = rw (le-ltb c 128 high, le-ltb c 2048 b, lt-ltb c 65536 d) (high_byte (224 + c / 4096) (next (c / 64) ∷ next c ∷ []) (omega arith) (high_byte (next (c / 64)) (next c ∷ []) (omega arith) (high_byte (next c) [] (omega arith) refl)))
    by (inr b) (inr d) =
        rw (le-ltb c 128 high, le-ltb c 2048 b, le-ltb c 65536 d) (high_byte (240 + c / 262144) (next (c / 4096) ∷ next (c / 64) ∷ next c ∷ []) (omega arith) (high_byte (next (c / 4096)) (next (c / 64) ∷ next c ∷ []) (omega arith) (high_byte (next (c / 64)) (next c ∷ []) (omega arith) (high_byte (next c) [] (omega arith) refl))))

-- a character is folded as its bytes are
encode-folded : (c : ℕ) → folded (encode c) ≡ encode (to_ascii_lowercase c)
encode-folded c =
    elim (cases_lt c 128) [
      | inl low ↦ ap folded (encode_ascii c low) ∙ sym (encode_ascii (to_ascii_lowercase c) (lowercase_ascii c low))
      | inr high ↦ high_stays (encode c) (encode_high c high) ∙ ap encode (sym (past_ascii c high))
    ]

scalar-folded : (c : ℕ) → scalar c ≡ true → scalar (to_ascii_lowercase c) ≡ true
scalar-folded c e =
    elim (cases_lt c 128) [
      | inl low ↦ let small = lowercase_ascii c low in low_scalar (to_ascii_lowercase c) (omega arith)
      | inr high ↦ ap scalar (past_ascii c high) ∙ e
    ]

characters : (cs : List ℕ) → scalars cs ≡ true → (scalars (map to_ascii_lowercase cs) ≡ true) × (encodes (map to_ascii_lowercase cs) ≡ folded (encodes cs))
characters [] e = (refl, refl)
characters (c ∷ cs) e =
    let parts = both (scalar c) (scalars cs) e in
    let rest = characters cs parts.1 in
    let here : encode (to_ascii_lowercase c) ≡ folded (encode c) = sym (encode-folded c) in
    (and_true _ _ (scalar-folded c parts.0) rest.0, ap (λ (t : List ℕ). t ++ encodes (map to_ascii_lowercase cs)) here ∙ ap (λ (t : List ℕ). folded (encode c) ++ t) rest.1 ∙ sym (folded-append (encode c) (encodes cs)))

pub utf8-folded : (t : List ℕ) → IsUtf8 t → IsUtf8 (folded t)
utf8-folded t u = let all = characters u.0 (u.1).0 in (map to_ascii_lowercase u.0, (all.0, all.1 ∙ ap folded (u.1).1))

pub is_utf8-folded : (t : List ℕ) → IsUtf8 t → is_utf8 (folded t) ≡ true
is_utf8-folded t u = is_utf8-from_IsUtf8 (folded t) (utf8-folded t u)

-- ---- paths

same_text : (q : List ℕ) → list_all (λ b. ltb b 65) q ≡ true → (p : List ℕ) → bytes_eq (folded p) q ≡ bytes_eq p q
same_text [] low [] = refl
same_text [] low (b ∷ p) = refl
same_text (c ∷ q) low [] = refl
same_text (c ∷ q) low (b ∷ p) =
    let parts = both (ltb c 65) (list_all (λ x. ltb x 65) q) low in
    ap (λ t. t && bytes_eq (folded p) q) (same_low c (ltb-true c 65 parts.0) b) ∙ ap (λ t. eqb b c && t) (same_text q parts.1 p)

good_part-folded : (p : List ℕ) → good_part (folded p) ≡ good_part p
good_part-folded p = rw (same_text (46 ∷ []) refl p, same_text (46 ∷ 46 ∷ []) refl p, all_same good_byte same_good p) refl

part-folded : (p : List ℕ) → is_part (folded p) ≡ is_part p
part-folded p =
    let plain : list_all (λ b. not (is_backslash b)) (folded p) ≡ list_all (λ b. not (is_backslash b)) p = all_same (λ b. not (is_backslash b)) (λ b. ap not (same_backslash b)) p in
    rw (length-folded p, plain, good_part-folded p) refl

parts-folded : (ps : List (List ℕ)) → all_parts (map folded ps) ≡ all_parts ps
parts-folded [] = refl
parts-folded (p ∷ ps) = ap (λ t. t && all_parts (map folded ps)) (part-folded p) ∙ ap (λ t. is_part p && t) (parts-folded ps)

joined-folded : (ps : List (List ℕ)) → folded (joined ps) ≡ joined (map folded ps)
joined-folded [] = refl
joined-folded (p ∷ ps) = folded-append p (92 ∷ joined ps) ∙ ap (λ (t : List ℕ). folded p ++ 92 ∷ t) (joined-folded ps)

abbrev low_drive : List ℕ
low_drive = 99 ∷ 58 ∷ 92 ∷ []

folder_text : (p : List ℕ) (f : IsFolder p) → folded p ≡ low_drive ++ joined (map folded f.parts)
folder_text p f = ap folded f.text ∙ ap (λ (t : List ℕ). 99 ∷ 58 ∷ 92 ∷ t) (joined-folded f.parts)

pub shown_folder : (p : List ℕ) → IsFolder p → IsFolder (drive_shown (folded p))
shown_folder p f =
    let text : drive_shown (folded p) ≡ drive ++ joined (map folded f.parts) = ap drive_shown (folder_text p f) in
    let long : length (drive_shown (folded p)) ≡ length p = ap length text ∙ sym (ap length (folder_text p f)) ∙ length-folded p in
    record { parts = map folded f.parts; good = parts-folded f.parts ∙ f.good; text = text; short = ap (nat_lt 259) long ∙ f.short }

pub length-shown_folder : (p : List ℕ) → IsFolder p → length (drive_shown (folded p)) ≡ length p
length-shown_folder p f = ap (λ (t : List ℕ). length (drive_shown t)) (folder_text p f) ∙ sym (ap length (folder_text p f)) ∙ length-folded p

pub shown_file : (p : List ℕ) → IsFile p → IsFile (drive_shown (folded p))
shown_file p f =
    let front = folder_text f.folder f.in_folder in
    let whole : folded p ≡ low_drive ++ (joined (map folded f.in_folder.parts) ++ folded f.name) = ap folded f.text ∙ folded-append f.folder f.name ∙ ap (λ (t : List ℕ). t ++ folded f.name) front in
    let text : drive_shown (folded p) ≡ drive_shown (folded f.folder) ++ folded f.name = ap drive_shown whole ∙ ap (λ (t : List ℕ). t ++ folded f.name) (sym (ap drive_shown front)) in
    let long : length (drive_shown (folded p)) ≡ length p = ap (λ (t : List ℕ). length (drive_shown t)) whole ∙ sym (ap length whole) ∙ length-folded p in
    record { folder = drive_shown (folded f.folder); name = folded f.name; in_folder = shown_folder f.folder f.in_folder; good = part-folded f.name ∙ f.good; text = text; short = ap (nat_lt 259) long ∙ f.short }

-- the name of a file that has a record says a file
pub file_named : (p : List ℕ) → IsUtf8 p → is_file_path p ≡ true → names_file (folded p) ≡ true
unfolding names_file
file_named p u e = and_true _ _ (and_true _ _ (is_utf8-folded p u) (is_folded-folded p)) (file_path (drive_shown (folded p)) (shown_file p (file_is p e)))

pub folder_named : (p : List ℕ) → IsUtf8 p → is_inner_folder p ≡ true → names_folder (folded p) ≡ true
unfolding names_folder
folder_named p u e =
    let parts = both _ _ e in
    let f = folder_is p parts.0 in
    let long : not (eqb (length (drive_shown (folded p))) 3) ≡ true = ap (λ n. not (eqb n 3)) (length-shown_folder p f) ∙ parts.1 in
    and_true _ _ (and_true _ _ (is_utf8-folded p u) (is_folded-folded p)) (and_true _ _ (folder_path (drive_shown (folded p)) (shown_folder p f)) long)

-- a path is short
small : (n : ℕ) → nat_lt 259 n ≡ false → n ≤ 259
small n e = ltb-false 259 n e

pub folder_short : (p : List ℕ) → is_folder_path p ≡ true → length p ≤ 259
folder_short p e = small (length p) (folder_is p e).short

pub file_short : (p : List ℕ) → is_file_path p ≡ true → length p ≤ 259
file_short p e = small (length p) (file_is p e).short
