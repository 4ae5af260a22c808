-- Lines, their fields and UTF-8.
use Rattle.std.proofs.Common.{◌≡◌, ◌+◌, ℕ, true, false, List, [], ◌∷◌, ◌++◌, length, eqb, map, refl, sym, ap, subst, ◌∙◌, arith, inl, inr, Bor, ◌<◌, ◌≤◌, ◌-◌, take, drop, set, get_or, append-nil, append_assoc, Bool, Option, Some, None, is_some, length-append, eq-eqb, eqb-true}
use Rattle.std.specs.Bool.{then_some}
use Rattle.std.specs.Str.Lines.{lines, lines_of_parts, strip_carriage_return}
use Rattle.std.specs.List.{All, count_by, slice_split}
use Rattle.std.specs.Str.{IsUtf8, is_utf8}
use Rattle.std.proofs.lemmas.Bool.{cases_Bool, eqb-false, ne_eqb, false_from_ne_true}
use Rattle.std.proofs.lemmas.Bool.Decides.{nat_tests}
use Rattle.std.proofs.lemmas.List.{take_more, take_more_set, drop_more, drop-set-lt, drop-map, drop_at, length-map, length-drop, length-take-le, get_or-take, get_or-drop, drop-drop, take-append-drop, map-append}
use Rattle.std.proofs.lemmas.List.Elements.{All-from_get_or}
use Rattle.std.proofs.lemmas.List.Splits.{length-slice_split, slice_split_at, slice_split_none}
use Rattle.std.proofs.lemmas.Str.{IsUtf8-from_is_utf8, is_utf8-from_IsUtf8}
use Rattle.memchr.specs.Find.{IsFirstByte, is_byte}
use Rattle.mi_text.specs.declared.answers.IdtFault.{IdtFault}
use Rattle.mi_text.specs.declared.answers.IdtFault.TheVariants.{NotUtf8, ColumnCount}
use Rattle.mi_idt.specs.Cells.{ColumnValue}
use Rattle.mi_idt.specs.Fault.{text_fault}
use Rattle.mi_idt.specs.Fields.{fields_of}
use Rattle.mi_idt.specs.Rows.{is_in_page, is_line, fields_fault, line_fault}
use Rattle.mi_idt.proofs.Basics.{shown}

pub length_fields : (line : List ℕ) → length (fields_of line) ≡ count_by (λ b. eqb b 9) line + 1
length_fields line = length-slice_split (λ b. eqb b 9) line

no_utf8 : (bs : List ℕ) → ¬ (IsUtf8 bs) → is_utf8 bs ≡ false
no_utf8 bs none = elim (cases_Bool (is_utf8 bs)) [ inl valid ↦ absurd (none (IsUtf8-from_is_utf8 bs valid)) | inr other ↦ other ]

pub utf8_line : (page : Option ℕ) (line : List ℕ) → IsUtf8 line → is_in_page page line ≡ is_line page line
utf8_line page line valid = rw (is_utf8-from_IsUtf8 line valid) refl

pub no_line : (page : Option ℕ) (line : List ℕ) → ¬ (IsUtf8 line) → false ≡ is_line page line
no_line page line none = rw (no_utf8 line none) refl

pub some_if : {A : Type 0} (b : Bool) (x : A) → is_some (then_some b x) ≡ b
some_if true x = refl
some_if false x = refl

-- the parts of a list that ends so
pub lines_of_parts-push : (parts : List (List ℕ)) (last : List ℕ) → lines_of_parts (parts ++ last ∷ []) ≡ map strip_carriage_return parts ++ lines_of_parts (last ∷ [])
lines_of_parts-push [] last = refl
lines_of_parts-push (x ∷ []) last = refl
lines_of_parts-push (x ∷ y ∷ more) last = ap (λ (ls : List (List ℕ)). strip_carriage_return x ∷ ls) (lines_of_parts-push (y ∷ more) last)

pub lines_are : (front : List (Bor (List ℕ))) (last : Bor (List ℕ)) (parts : List (Bor (List ℕ))) (bytes : List ℕ) → parts ≡ front ++ last ∷ [] → shown parts ≡ slice_split (λ b. eqb b 10) bytes → map strip_carriage_return (shown front) ++ lines_of_parts (last.now ∷ []) ≡ lines bytes
lines_are front last parts bytes cut split =
    let whole : slice_split (λ b. eqb b 10) bytes ≡ shown front ++ last.now ∷ [] = sym split ∙ ap shown cut ∙ map-append (λ (b : Bor (List ℕ)). b.now) front (last ∷ []) in
    sym (lines_of_parts-push (shown front) last.now) ∙ ap lines_of_parts (sym whole)

pub last_dropped : (front : List (List ℕ)) (last : List ℕ) → eqb (length last) 0 ≡ true → front ++ lines_of_parts (last ∷ []) ≡ front
last_dropped front last none = rw none (append-nil front)

pub last_kept : (last : List ℕ) → eqb (length last) 0 ≡ false → lines_of_parts (last ∷ []) ≡ last ∷ []
last_kept last some = rw some refl

pub pushed_last : (ls after : List (Bor (List ℕ))) (last : Bor (List ℕ)) → after ≡ ls ++ last ∷ [] → eqb (length last.now) 0 ≡ false → shown after ≡ shown ls ++ lines_of_parts (last.now ∷ [])
pushed_last ls after last pushed some = ap shown pushed ∙ map-append (λ (b : Bor (List ℕ)). b.now) ls (last ∷ []) ∙ ap (λ (xs : List (List ℕ)). shown ls ++ xs) (sym (last_kept last.now some))

-- a line in whose place it stands without its CR
pub dropped_more : (lines before after : List (Bor (List ℕ))) (i : ℕ) (line : Bor (List ℕ)) → i < length lines → i < length before
    → shown (take i lines) ≡ map strip_carriage_return (shown (take i before)) → drop i lines ≡ drop i before → after ≡ set lines i line → line.now ≡ strip_carriage_return (get_or lines i line).now
    → (shown (take (i + 1) after) ≡ map strip_carriage_return (shown (take (i + 1) before))) × (drop (i + 1) after ≡ drop (i + 1) before)
dropped_more lines before after i line h k front back is dropped =
    let both : get_or lines i line ∷ drop (i + 1) lines ≡ get_or before i line ∷ drop (i + 1) before = sym (drop_more lines i line h) ∙ back ∙ drop_more before i line k in
    let here : get_or lines i line ≡ get_or before i line = cc in
    let rest : drop (i + 1) lines ≡ drop (i + 1) before = cc in
    let left : shown (take (i + 1) after) ≡ shown (take i lines) ++ line.now ∷ [] = ap (λ (l : List (Bor (List ℕ))). shown (take (i + 1) l)) is ∙ ap shown (take_more_set lines i line h) ∙ map-append (λ (b : Bor (List ℕ)). b.now) (take i lines) (line ∷ []) in
    let right : map strip_carriage_return (shown (take (i + 1) before)) ≡ map strip_carriage_return (shown (take i before)) ++ strip_carriage_return (get_or before i line).now ∷ [] =
    ap (λ (l : List (Bor (List ℕ))). map strip_carriage_return (shown l)) (take_more before i line k) ∙ ap (map strip_carriage_return) (map-append (λ (b : Bor (List ℕ)). b.now) (take i before) (get_or before i line ∷ [])) ∙ map-append strip_carriage_return (shown (take i before)) ((get_or before i line).now ∷ []) in
    (left ∙ (λ n. front n ++ (dropped ∙ ap (λ (b : Bor (List ℕ)). strip_carriage_return b.now) here) n ∷ []) ∙ sym right, ap (drop (i + 1)) is ∙ drop-set-lt (i + 1) lines i line (omega arith) ∙ rest)

-- what was added behind others
pub behind : (old new : List (Bor (List ℕ))) (added : List (List ℕ)) (start : ℕ) → shown new ≡ shown old ++ added → start ≡ length old → shown (drop start new) ≡ added
behind old new added start is before =
    sym (drop-map (λ (b : Bor (List ℕ)). b.now) start new) ∙ ap (drop start) is ∙ drop_at (shown old) added start (length-map old (λ (b : Bor (List ℕ)). b.now) ∙ sym before)

pub grown : (old new : List (Bor (List ℕ))) (added : List (List ℕ)) → shown new ≡ shown old ++ added → length new ≡ length old + length added
grown old new added is =
    sym (length-map new (λ (b : Bor (List ℕ)). b.now)) ∙ ap length is ∙ length-append (shown old) added ∙ ap (λ n. n + length added) (length-map old (λ (b : Bor (List ℕ)). b.now))

-- a line of fewer or more fields
pub other_fields : (page : Option ℕ) (cs : List ColumnValue) (row : ℕ) (line : List ℕ) → is_line page line ≡ true → (length (fields_of line) ≡ length cs → ⊥) → line_fault page cs row line ≡ Some (ColumnCount (row + 3))
other_fields page cs row line is other = rw (is, ne_eqb (length (fields_of line)) (length cs) other) refl

-- a line of as many fields as there are columns has the fault of its fields
pub line_fields : (page : Option ℕ) (cs : List ColumnValue) (row : ℕ) (line : List ℕ) (fault : Option IdtFault) → is_line page line ≡ true → length (fields_of line) ≡ length cs → fault ≡ fields_fault row 1 cs (fields_of line) → line_fault page cs row line ≡ fault
line_fields page cs row line fault is same first =
    let test : eqb (length (fields_of line)) (length cs) ≡ true = grind (arith, nat_tests) in
    rw (is, test) (sym first)

-- a line that is text, and one that isn't
pub text_line : (number : ℕ) (line : List ℕ) → IsUtf8 line → text_fault number line ≡ None
text_line number line valid = rw (is_utf8-from_IsUtf8 line valid) refl

pub no_text_line : (number : ℕ) (line : List ℕ) → ¬ (IsUtf8 line) → text_fault number line ≡ Some (NotUtf8 number)
no_text_line number line none = rw (no_utf8 line none) refl

-- ---- the parts between marks, found one after the other

module _ (mark : ℕ) where
  no_marks : (bytes : List ℕ) → ((k : ℕ) → k < length bytes → eqb (get_or bytes k 0) mark ≡ true → ⊥) → All (λ b. eqb b mark ≡ false) bytes
  no_marks bytes none = All-from_get_or (λ b. eqb b mark ≡ false) bytes 0 (λ k h. false_from_ne_true (eqb (get_or bytes k 0) mark) (none k h))

  -- the first part ends at the first mark
  parts_at : (line : List ℕ) (at : ℕ) → at < length line → eqb (get_or line at 0) mark ≡ true → ((k : ℕ) → k < at → eqb (get_or line k 0) mark ≡ true → ⊥) → slice_split (λ b. eqb b mark) line ≡ take at line ∷ slice_split (λ b. eqb b mark) (drop (at + 1) line)
  parts_at line at h found none =
      let front : List ℕ = take at line in
      let long : length front ≡ at = length-take-le at line (omega (arith, h)) in
      let whole : line ≡ front ++ get_or line at 0 ∷ drop (at + 1) line = sym (take-append-drop at line) ∙ ap (λ (l : List ℕ). take at line ++ l) (drop_more line at 0 h) in
      ap (slice_split (λ b. eqb b mark)) whole ∙ slice_split_at (λ b. eqb b mark) front (get_or line at 0) (drop (at + 1) line) (no_marks front (λ k lt is. none k (omega (arith, long)) (ap (λ (b : ℕ). eqb b mark) (sym (get_or-take at line k 0 (omega (arith, long)))) ∙ is))) found

  -- a line without a mark is one part
  pub part_alone : (line : List ℕ) → ((k : ℕ) → k < length line → eqb (get_or line k 0) mark ≡ true → ⊥) → slice_split (λ b. eqb b mark) line ≡ line ∷ []
  part_alone line none = slice_split_none (λ b. eqb b mark) line (no_marks line none)

  -- what a search for a mark found in a line, or that there is none
  pub found_at : (bytes line : List ℕ) (at : ℕ) → bytes ≡ line → IsFirstByte (is_byte mark) bytes (Some at) → (at < length line) × (eqb (get_or line at 0) mark ≡ true) × ((k : ℕ) → k < at → eqb (get_or line k 0) mark ≡ true → ⊥)
  found_at bytes line at is h = subst (λ (l : List ℕ). (at < length l) × (eqb (get_or l at 0) mark ≡ true) × ((k : ℕ) → k < at → eqb (get_or l k 0) mark ≡ true → ⊥)) is ((h.0).high, h.1, λ k lt t. (h.0).before k (omega arith) lt t)

  pub found_none : (bytes line : List ℕ) → bytes ≡ line → IsFirstByte (is_byte mark) bytes None → (k : ℕ) → k < length line → eqb (get_or line k 0) mark ≡ true → ⊥
  found_none bytes line is h = subst (λ (l : List ℕ). (k : ℕ) → k < length l → eqb (get_or l k 0) mark ≡ true → ⊥) is (λ k lt t. h k (omega arith) lt t)

  -- a part joins those before
  pub part_joins : (old new : List (Bor (List ℕ))) (part : Bor (List ℕ)) (line rest : List ℕ) (at : ℕ) → at < length line → eqb (get_or line at 0) mark ≡ true → ((k : ℕ) → k < at → eqb (get_or line k 0) mark ≡ true → ⊥)
      → new ≡ old ++ part ∷ [] → part.now ≡ take at line → rest ≡ drop (at + 1) line → shown new ++ slice_split (λ b. eqb b mark) rest ≡ shown old ++ slice_split (λ b. eqb b mark) line
  part_joins old new part line rest at h found none pushed is left =
      ap (λ (l : List (Bor (List ℕ))). shown l ++ slice_split (λ b. eqb b mark) rest) pushed
      ∙ ap (λ (l : List (List ℕ)). l ++ slice_split (λ b. eqb b mark) rest) (map-append (λ (b : Bor (List ℕ)). b.now) old (part ∷ []))
      ∙ append_assoc (shown old) (part.now ∷ []) (slice_split (λ b. eqb b mark) rest)
      ∙ ap (λ (l : List (List ℕ)). shown old ++ l) ((λ i. is i ∷ slice_split (λ b. eqb b mark) (left i)) ∙ sym (parts_at line at h found none))

  -- the part from a place up to the next mark joins those before
  pub part_cut : (old new : List (Bor (List ℕ))) (part : Bor (List ℕ)) (line : List ℕ) (start i : ℕ) → start ≤ i → i < length line → get_or line i 0 ≡ mark → ((k : ℕ) → start ≤ k → k < i → get_or line k 0 ≡ mark → ⊥)
      → new ≡ old ++ part ∷ [] → part.now ≡ take (i - start) (drop start line) → shown new ++ slice_split (λ b. eqb b mark) (drop (i + 1) line) ≡ shown old ++ slice_split (λ b. eqb b mark) (drop start line)
  part_cut old new part line start i le lt found none pushed is =
      let back : start + (i - start) ≡ i = omega (arith, le) in
      let on : start + (i - start + 1) ≡ i + 1 = omega (arith, le) in
      part_joins old new part (drop start line) (drop (i + 1) line) (i - start) (omega (arith, le, lt, length-drop start line)) (eq-eqb _ _ (get_or-drop start line (i - start) 0 ∙ ap (λ n. get_or line n 0) back ∙ found))
      (λ k below is. none (start + k) (omega arith) (omega (arith, le, below)) (sym (get_or-drop start line k 0) ∙ eqb-true _ _ is)) pushed is (sym (drop-drop (i - start + 1) start line ∙ ap (λ n. drop n line) on))

  pub none_more : (line : List ℕ) (start i : ℕ) → ((k : ℕ) → start ≤ k → k < i → get_or line k 0 ≡ mark → ⊥) → (get_or line i 0 ≡ mark → ⊥) → (k : ℕ) → start ≤ k → k < i + 1 → get_or line k 0 ≡ mark → ⊥
  none_more line start i none here k from below is = elim (cases_Bool (eqb k i)) [
    | inl same ↦ here (ap (λ n. get_or line n 0) (sym (eqb-true k i same)) ∙ is)
    | inr other ↦ none k from (omega (arith, below, eqb-false k i other)) is
  ]

  -- the last part
  pub part_last : (old new : List (Bor (List ℕ))) (part : Bor (List ℕ)) (line : List ℕ) (start : ℕ) → ((k : ℕ) → start ≤ k → k < length line → get_or line k 0 ≡ mark → ⊥)
      → new ≡ old ++ part ∷ [] → part.now ≡ drop start line → shown new ≡ shown old ++ slice_split (λ b. eqb b mark) (drop start line)
  part_last old new part line start none pushed is =
      ap shown pushed ∙ map-append (λ (b : Bor (List ℕ)). b.now) old (part ∷ [])
      ∙ ap (λ (l : List (List ℕ)). shown old ++ l) (ap (λ (l : List ℕ). l ∷ []) is ∙ sym (part_alone (drop start line) (λ k below is. none (start + k) (omega arith) (omega (arith, below, length-drop start line)) (sym (get_or-drop start line k 0) ∙ eqb-true _ _ is))))
