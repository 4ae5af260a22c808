-- The head of a file both ways.
use Rattle.std.proofs.Common.{◌≡◌, ℕ, ◌+◌, ◌^◌, ◌<◌, ◌≤◌, true, false, cond, ltb, List, ◌++◌, length, take, drop, Ok, Err, refl, sym, ap, subst, ◌∙◌, append_assoc, arith}
use Rattle.std.specs.Int.{w32, w64, to_be_bytes}
use Rattle.std.specs.Str.{IsUtf8}
use Rattle.std.proofs.lemmas.Bool.{ltb-true, ltb-false, le-ltb, lt-ltb}
use Rattle.std.proofs.lemmas.List.{take_at, drop_at, take-append-drop, length-append, length-take}
use Rattle.std.proofs.lemmas.Slice.Eq.{bytes_eq-Decides}
use Rattle.std.proofs.lemmas.Str.{IsUtf8-from_is_utf8, is_utf8-from_IsUtf8}
use Rattle.mi_text.specs.Fold.{folded}
use Rattle.mi_text.specs.Path.{is_file_path}
use Rattle.mi_base.specs.declared.rec_error.RecFault.TheVariants.{Short, Field}
use Rattle.mi_base.specs.declared.entry.FileHead.{FileHead}
use Rattle.mi_base.specs.Fields.{string, numbers, version}
use Rattle.mi_base.specs.Limits.{are_bytes, is_short, IsVersionOrNone}
use Rattle.mi_base.specs.Spelling.{head_bytes}
use Rattle.mi_base.specs.Reading.{number_at, version_at, rising_numbers_at}
use Rattle.mi_base.specs.Records.{is_shown_file, shown_file_at, head_at}
use Rattle.mi_base.proofs.ByteLemmas.{both, and_true, bytes-append, number_bytes, text_bytes}
use Rattle.mi_base.proofs.FieldLemmas.{guard_ok, guard_passed, ok_is, Takes, Takes-then, glue, IsField, step, front_bytes, number32, number64, FitsNumbers, numbers_field, version_field}
use Rattle.mi_base.proofs.FoldLemmas.{file_short}

-- a shown path that folds to the path of a name
pub record IsShown (path shown : List ℕ) : Type 0 where
  pub utf8 : IsUtf8 shown
  pub folds : folded shown ≡ path
  pub file : is_file_path shown ≡ true

shown_is : (path shown : List ℕ) → is_shown_file path shown ≡ true → IsShown path shown
shown_is path shown e =
    let two = both _ _ e in
    let one = both _ _ two.0 in
    record { utf8 = IsUtf8-from_is_utf8 shown one.0; folds = (bytes_eq-Decides _ _).0 one.1; file = two.1 }

is_shown : (path shown : List ℕ) → IsShown path shown → is_shown_file path shown ≡ true
is_shown path shown s = and_true _ _ (and_true _ _ (is_utf8-from_IsUtf8 shown s.utf8) ((bytes_eq-Decides _ _).1 s.folds)) s.file

shown_fits : (path shown : List ℕ) → IsShown path shown → is_short shown ≡ true
shown_fits path shown s = let n = file_short shown s.file in lt-ltb _ _ (omega arith)

pub shown_field : (path : List ℕ) → IsField (shown_file_at 0 path) string (IsShown path)
unfolding shown_file_at
shown_field path = record { takes = takes; again = again; bytes = bytes }
  where
    takes : (bytes shown rest : List ℕ) → are_bytes bytes ≡ true → shown_file_at 0 path bytes ≡ Ok (shown, rest) → Takes bytes (string shown) rest × IsShown path shown
    takes bytes shown rest fits e =
        let s = step (number_at w32) (to_be_bytes w32) (λ n. n < 2 ^ 32) number32 (λ n. cond (ltb (length n.1 + 0) n.0) (Err Short) (cond (is_shown_file path (take n.0 n.1)) (Ok (take n.0 n.1, drop n.0 n.1)) (Err Field))) bytes (shown, rest) fits e in
        let g = guard_ok (ltb (length s.rest + 0) s.value) Short (cond (is_shown_file path (take s.value s.rest)) (Ok (take s.value s.rest, drop s.value s.rest)) (Err Field)) (shown, rest) s.more in
        let h = guard_passed (is_shown_file path (take s.value s.rest)) Field (Ok (take s.value s.rest, drop s.value s.rest)) (shown, rest) g.1 in
        let long : s.value ≤ length s.rest = let le = ltb-false _ _ g.0 in omega arith in
        let len : length (take s.value s.rest) ≡ s.value = omega (arith, length-take s.value s.rest) in
        let halves = front_bytes s.value s.rest s.rest_fits in
        let second : Takes s.rest (take s.value s.rest) (drop s.value s.rest) = record { parts = sym (take-append-drop s.value s.rest); rest_fits = halves.1 } in
        let first : Takes bytes (to_be_bytes w32 s.value) s.rest = record { parts = s.parts; rest_fits = s.rest_fits } in
        let both_parts = Takes-then bytes (to_be_bytes w32 s.value) s.rest (take s.value s.rest) (drop s.value s.rest) first second in
        let whole : Takes bytes (string (take s.value s.rest)) (drop s.value s.rest) = subst (λ (k : ℕ). Takes bytes (to_be_bytes w32 k ++ take s.value s.rest) (drop s.value s.rest)) (sym len) both_parts in
        subst (λ (p : List ℕ × List ℕ). Takes bytes (string p.0) p.1 × IsShown path p.0) (ok_is (take s.value s.rest, drop s.value s.rest) (shown, rest) h.1) (whole, shown_is path (take s.value s.rest) h.0)

    again : (shown rest : List ℕ) → IsShown path shown → shown_file_at 0 path (string shown ++ rest) ≡ Ok (shown, rest)
    again shown rest is =
        let long : ltb (length (shown ++ rest) + 0) (length shown) ≡ false = le-ltb _ _ (omega (arith, length-append shown rest)) in
        let right = is_shown path shown is in
        rw (number32.again (length shown) (shown ++ rest) (ltb-true _ _ (shown_fits path shown is)), long, take_at shown rest (length shown) refl, drop_at shown rest (length shown) refl, right) refl

    bytes : (shown : List ℕ) → IsShown path shown → are_bytes (string shown) ≡ true
    bytes shown is = bytes-append (to_be_bytes w32 (length shown)) shown (number_bytes w32 (length shown)) (text_bytes shown is.utf8)

-- what a head that was read, or may be read, has
pub record IsHead (path : List ℕ) (h : FileHead) : Type 0 where
  pub shown : IsShown path h.shown
  pub version : IsVersionOrNone h.version
  pub languages : FitsNumbers h.languages
  pub created : h.created < 2 ^ 64
  pub modified : h.modified < 2 ^ 64
  pub attributes : ltb h.attributes 8 ≡ true

pub record TookHead (path bytes : List ℕ) (h : FileHead) (rest : List ℕ) : Type 0 where
  pub parts : bytes ≡ head_bytes h ++ rest
  pub rest_fits : are_bytes rest ≡ true
  pub is : IsHead path h
  pub long : h.length ≡ length rest + 0

pub head_takes : (path bytes : List ℕ) (x : FileHead × List ℕ) → are_bytes bytes ≡ true → head_at 0 path bytes ≡ Ok x → TookHead path bytes x.0 x.1
unfolding head_at head_bytes
head_takes path bytes x fits e =
    let a = step (shown_file_at 0 path) string (IsShown path) (shown_field path) _ bytes x fits e in
    let b = step version_at version IsVersionOrNone version_field _ a.rest x a.rest_fits a.more in
    let c = step rising_numbers_at numbers FitsNumbers numbers_field _ b.rest x b.rest_fits b.more in
    let d = step (number_at w64) (to_be_bytes w64) (λ n. n < 2 ^ 64) number64 _ c.rest x c.rest_fits c.more in
    let f = step (number_at w64) (to_be_bytes w64) (λ n. n < 2 ^ 64) number64 _ d.rest x d.rest_fits d.more in
    let g = step (number_at w32) (to_be_bytes w32) (λ n. n < 2 ^ 32) number32 _ f.rest x f.rest_fits f.more in
    let made : FileHead = record { shown = a.value; version = b.value; languages = c.value; created = d.value; modified = f.value; attributes = g.value; length = length g.rest + 0 } in
    let last = guard_passed (ltb g.value 8) Field (Ok (made, g.rest)) x g.more in
    let p1 = glue bytes (string a.value) a.rest (version b.value) b.rest a.parts b.parts in
    let p2 = glue bytes (string a.value ++ version b.value) b.rest (numbers c.value) c.rest p1 c.parts in
    let p3 = glue bytes (string a.value ++ version b.value ++ numbers c.value) c.rest (to_be_bytes w64 d.value) d.rest p2 d.parts in
    let p4 = glue bytes (string a.value ++ version b.value ++ numbers c.value ++ to_be_bytes w64 d.value) d.rest (to_be_bytes w64 f.value) f.rest p3 f.parts in
    let p5 = glue bytes (string a.value ++ version b.value ++ numbers c.value ++ to_be_bytes w64 d.value ++ to_be_bytes w64 f.value) f.rest (to_be_bytes w32 g.value) g.rest p4 g.parts in
    subst (λ (y : FileHead × List ℕ). TookHead path bytes y.0 y.1) (ok_is (made, g.rest) x last.1) (record {
      parts = p5;
      rest_fits = g.rest_fits;
      is = record { shown = a.right; version = b.right; languages = c.right; created = d.right; modified = f.right; attributes = last.0 };
      long = refl;
    })

-- a head with so many bytes behind it
abbrev pub with_length : FileHead → ℕ → FileHead
with_length h n = record h { length = n }

pub head_again : (path : List ℕ) (h : FileHead) (rest : List ℕ) → IsHead path h → head_at 0 path (head_bytes h ++ rest) ≡ Ok (with_length h (length rest + 0), rest)
unfolding head_at head_bytes
head_again path h rest is =
    let r5 : List ℕ = to_be_bytes w32 h.attributes ++ rest in
    let r4 : List ℕ = to_be_bytes w64 h.modified ++ r5 in
    let r3 : List ℕ = to_be_bytes w64 h.created ++ r4 in
    let r2 : List ℕ = numbers h.languages ++ r3 in
    let r1 : List ℕ = version h.version ++ r2 in
    let joined : head_bytes h ++ rest ≡ string h.shown ++ r1 = parts (string h.shown) (version h.version) (numbers h.languages) (to_be_bytes w64 h.created) (to_be_bytes w64 h.modified) (to_be_bytes w32 h.attributes) rest in
    let low : h.attributes < 2 ^ 32 = let n = ltb-true _ _ is.attributes in omega arith in
    ap (head_at 0 path) joined
    ∙ rw ((shown_field path).again h.shown r1 is.shown, version_field.again h.version r2 is.version, numbers_field.again h.languages r3 is.languages, number64.again h.created r4 is.created, number64.again h.modified r5 is.modified, number32.again h.attributes rest low, is.attributes) refl
  where
    parts : (a b c d f g r : List ℕ) → a ++ b ++ c ++ d ++ f ++ g ++ r ≡ a ++ (b ++ (c ++ (d ++ (f ++ (g ++ r)))))
    parts a b c d f g r = simp append_assoc

pub head_is_bytes : (path : List ℕ) (h : FileHead) → IsHead path h → are_bytes (head_bytes h) ≡ true
unfolding head_bytes
head_is_bytes path h is =
    let p1 = bytes-append (string h.shown) (version h.version) ((shown_field path).bytes h.shown is.shown) (version_field.bytes h.version is.version) in
    let p2 = bytes-append (string h.shown ++ version h.version) (numbers h.languages) p1 (numbers_field.bytes h.languages is.languages) in
    let p3 = bytes-append (string h.shown ++ version h.version ++ numbers h.languages) (to_be_bytes w64 h.created) p2 (number_bytes w64 h.created) in
    let p4 = bytes-append (string h.shown ++ version h.version ++ numbers h.languages ++ to_be_bytes w64 h.created) (to_be_bytes w64 h.modified) p3 (number_bytes w64 h.modified) in
    bytes-append (string h.shown ++ version h.version ++ numbers h.languages ++ to_be_bytes w64 h.created ++ to_be_bytes w64 h.modified) (to_be_bytes w32 h.attributes) p4 (number_bytes w32 h.attributes)
