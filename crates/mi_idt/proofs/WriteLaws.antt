-- What is written spells the same table again.
use Rattle.std.proofs.Common.{◌≡◌, ◌≢◌, ◌⊎◌, ℕ, zero, suc, ◌-◌, ◌^◌, ◌<◌, ◌≤◌, eqb, ltb, Bool, true, false, cond, List, [], ◌∷◌, ◌++◌, length, map, take, get_or, Option, Some, None, ℤ, refl, sym, ap, subst, ◌∙◌, arith, inl, inr, append_assoc}
use Rattle.std.specs.List.{All, AllZip, AllPairs, AllByRecursion, list_all, slice_split, onto_first, join_with_byte, slice_get}
use Rattle.std.specs.Str.{IsUtf8, IsAscii}
use Rattle.std.specs.Str.Lines.{lines, lines_of_parts, strip_carriage_return}
use Rattle.std.specs.Fmt.{decimal, signed_decimal}
use Rattle.std.proofs.lemmas.Bool.{cases_Bool}
use Rattle.std.proofs.lemmas.Bool.Decides.{nat_tests}
use Rattle.std.proofs.lemmas.Fmt.{decimal_digit}
use Rattle.std.proofs.lemmas.List.{length-append, take_at}
use Rattle.std.proofs.lemmas.List.Elements.{All-nil, All-cons, All-head, All-tail, All-append, All-take}
use Rattle.std.proofs.lemmas.List.Splits.{slice_split_at, join_with_byte-slice_split}
use Rattle.std.proofs.lemmas.Str.{IsUtf8-from_ascii, IsUtf8-nil}
use Rattle.std.proofs.lemmas.Str.Ascii.{IsAscii-cons, IsAscii-nil}
use Rattle.mi_idt.specs.declared.table.Table.{Table}
use Rattle.mi_idt.specs.Cells.{Cell, Nothing, Text, Number, ColumnValue, TableValue, names_of}
use Rattle.mi_idt.specs.Columns.{limit_of}
use Rattle.mi_idt.specs.Fields.{fields_of, unescaped, is_ascii, is_digit}
use Rattle.mi_idt.specs.Means.{meaning, IsSpelledBy}
use Rattle.mi_idt.specs.Spells.{SpellsInteger, IsWidth, SpellsDefinition, IsKnownPage, SpellsHead, SpellsKeys, SpellsField, SpellsFields, SpellsRow, Spells}
use Rattle.mi_idt.specs.Written.{escaped, written_cell, written_row, written_definition, written_page, names_at, written_lines, with_ends, written}
use Rattle.mi_idt.proofs.Basics.{and_true, cons_not}
use Rattle.mi_idt.proofs.FieldLaws.{is_clean, clean_digits, clean_cell, round_cell, limit_small}
use Rattle.mi_idt.proofs.Numbers.{decimal_spells, integer_written}
use Rattle.mi_idt.proofs.Splits.{Clean, NoTab, NoEnd, no_tab, no_end, clean_tabs, clean_ends, fields_of_join}
use Rattle.mi_idt.proofs.Utf8.{IsUtf8-unescaped, IsUtf8-escaped, utf8_fields, parts_utf8}

-- ---- parts of a text

-- a part holds only bytes of the whole
onto_each : (P : ℕ → Type 0) (x : ℕ) (parts : List (List ℕ)) → P x → AllByRecursion (All P) parts → AllByRecursion (All P) (onto_first x parts)
onto_each P x [] one all = (All-cons P x [] one (All-nil P), tt)
onto_each P x (part ∷ parts) one all = (All-cons P x part one all.0, all.1)

kept_parts : (P : ℕ → Type 0) (p : ℕ → Bool) (xs : List ℕ) → All P xs → AllByRecursion (All P) (slice_split p xs)
kept_parts P p [] all = (All-nil P, tt)
kept_parts P p (x ∷ xs) all = elim (cases_Bool (p x)) [
  | inl t ↦ rw t (All-nil P, kept_parts P p xs (All-tail P x xs all))
  | inr f ↦ rw f (onto_each P x (slice_split p xs) (All-head P x xs all) (kept_parts P p xs (All-tail P x xs all)))
]

-- a part holds no byte at which it was cut
cut_parts : (p : ℕ → Bool) (xs : List ℕ) → AllByRecursion (All (λ b. p b ≡ false)) (slice_split p xs)
cut_parts p [] = (All-nil (λ b. p b ≡ false), tt)
cut_parts p (x ∷ xs) = elim (cases_Bool (p x)) [
  | inl t ↦ rw t (All-nil (λ b. p b ≡ false), cut_parts p xs)
  | inr f ↦ subst (AllByRecursion (All (λ b. p b ≡ false))) (ap (λ (c : Bool). cond c ([] ∷ slice_split p xs) (onto_first x (slice_split p xs))) (sym f)) (onto_each (λ b. p b ≡ false) x (slice_split p xs) f (cut_parts p xs))
]

fields_no_tab : (line : List ℕ) → AllByRecursion NoTab (fields_of line)
fields_no_tab line = cut_parts (λ b. eqb b 9) line

fields_no_end : (line : List ℕ) → NoEnd line → AllByRecursion NoEnd (fields_of line)
fields_no_end line all = kept_parts (λ b. eqb b 10 ≡ false) (λ b. eqb b 9) line all

-- no line holds its end
stripped : (x : List ℕ) → NoEnd x → NoEnd (strip_carriage_return x)
stripped x all = elim (cases_Bool (eqb (get_or x (length x - 1) 0) 13)) [
  | inl t ↦ rw t (All-take (λ b. eqb b 10 ≡ false) (length x - 1) x all)
  | inr f ↦ rw f all
]

parts_no_end : (parts : List (List ℕ)) → AllByRecursion NoEnd parts → AllByRecursion NoEnd (lines_of_parts parts)
parts_no_end [] all = tt
parts_no_end (x ∷ []) all = elim (cases_Bool (eqb (length x) 0)) [ inl t ↦ rw t tt | inr f ↦ rw f (all.0, tt) ]
parts_no_end (x ∷ y ∷ more) all = (stripped x all.0, parts_no_end (y ∷ more) all.1)

lines_no_end : (bytes : List ℕ) → AllByRecursion NoEnd (lines bytes)
lines_no_end bytes = parts_no_end (slice_split (λ b. eqb b 10) bytes) (cut_parts (λ b. eqb b 10) bytes)

-- ---- joined parts

join_all : (P : ℕ → Type 0) (xs : List (List ℕ)) → P 9 → AllByRecursion (All P) xs → All P (join_with_byte 9 xs)
join_all P [] tab all = All-nil P
join_all P (x ∷ []) tab all = all.0
join_all P (x ∷ y ∷ ys) tab all = All-append P x (9 ∷ join_with_byte 9 (y ∷ ys)) all.0 (All-cons P 9 (join_with_byte 9 (y ∷ ys)) tab (join_all P (y ∷ ys) tab all.1))

join_ascii : (xs : List (List ℕ)) → AllByRecursion (λ x. is_ascii x ≡ true) xs → is_ascii (join_with_byte 9 xs) ≡ true
join_ascii [] all = refl
join_ascii (x ∷ []) all = all.0
join_ascii (x ∷ y ∷ ys) all = ascii_append x (9 ∷ join_with_byte 9 (y ∷ ys)) all.0 (join_ascii (y ∷ ys) all.1)
  where
    ascii_append : (a b : List ℕ) → is_ascii a ≡ true → is_ascii b ≡ true → is_ascii (a ++ b) ≡ true
    ascii_append [] b p q = q
    ascii_append (c ∷ a) b p q = let r = and_true (ltb c 128) (is_ascii a) p in rw r.0 (ascii_append a b r.1 q)

-- ---- lines that are written

written_end : (x : List ℕ) → strip_carriage_return (x ++ 13 ∷ []) ≡ x
written_end x =
    let long : length (x ++ 13 ∷ []) - 1 ≡ length x = omega (arith, length-append x (13 ∷ [])) in
    let last : get_or (x ++ 13 ∷ []) (length x) 0 ≡ 13 = at_end x in
    let t : eqb (get_or (x ++ 13 ∷ []) (length (x ++ 13 ∷ []) - 1) 0) 13 ≡ true = ap (λ (n : ℕ). eqb (get_or (x ++ 13 ∷ []) n 0) 13) long ∙ ap (λ (b : ℕ). eqb b 13) last in
    ap (λ (b : Bool). cond b (take (length (x ++ 13 ∷ []) - 1) (x ++ 13 ∷ [])) (x ++ 13 ∷ [])) t ∙ ap (λ (n : ℕ). take n (x ++ 13 ∷ [])) long ∙ take_at x (13 ∷ []) (length x) refl
  where
    at_end : (x : List ℕ) → get_or (x ++ 13 ∷ []) (length x) 0 ≡ 13
    at_end [] = refl
    at_end (b ∷ x) = at_end x

split_some : (p : ℕ → Bool) (xs : List ℕ) → (y : List ℕ) × (ys : List (List ℕ)) × (slice_split p xs ≡ y ∷ ys)
split_some p [] = ([], [], refl)
split_some p (x ∷ xs) = elim (cases_Bool (p x)) [
  | inl t ↦ ([], slice_split p xs, ap (λ (b : Bool). cond b ([] ∷ slice_split p xs) (onto_first x (slice_split p xs))) t)
  | inr f ↦
      let rest = split_some p xs in
      (x ∷ rest.0, rest.1, ap (λ (b : Bool). cond b ([] ∷ slice_split p xs) (onto_first x (slice_split p xs))) f ∙ ap (onto_first x) rest.2)
]

lines_written : (ls : List (List ℕ)) → AllByRecursion NoEnd ls → lines (with_ends ls) ≡ ls
lines_written [] all = refl
lines_written (l ∷ ls) all =
    let rest : List ℕ = with_ends ls in
    let text : with_ends (l ∷ ls) ≡ (l ++ 13 ∷ []) ++ 10 ∷ rest = append_assoc l (13 ∷ 10 ∷ []) rest ∙ sym (append_assoc l (13 ∷ []) (10 ∷ rest)) in
    let whole : NoEnd (l ++ 13 ∷ []) = All-append (λ b. eqb b 10 ≡ false) l (13 ∷ []) all.0 (All-cons (λ b. eqb b 10 ≡ false) 13 [] refl (All-nil (λ b. eqb b 10 ≡ false))) in
    let cut : slice_split (λ b. eqb b 10) (with_ends (l ∷ ls)) ≡ (l ++ 13 ∷ []) ∷ slice_split (λ b. eqb b 10) rest = ap (slice_split (λ b. eqb b 10)) text ∙ slice_split_at (λ b. eqb b 10) (l ++ 13 ∷ []) 10 rest whole refl in
    let more = split_some (λ b. eqb b 10) rest in
    let first : lines_of_parts ((l ++ 13 ∷ []) ∷ slice_split (λ b. eqb b 10) rest) ≡ strip_carriage_return (l ++ 13 ∷ []) ∷ lines rest = ap (λ (ps : List (List ℕ)). lines_of_parts ((l ++ 13 ∷ []) ∷ ps)) more.2 ∙ ap (λ (ps : List (List ℕ)). strip_carriage_return (l ++ 13 ∷ []) ∷ lines_of_parts ps) (sym more.2) in
    ap lines_of_parts cut ∙ first ∙ (λ i. written_end l i ∷ lines_written ls all.1 i)

-- ---- cells

ascii_utf8 : (x : List ℕ) → is_ascii x ≡ true → IsUtf8 x
ascii_utf8 x e = IsUtf8-from_ascii x (ascii x e)
  where
    ascii : (x : List ℕ) → is_ascii x ≡ true → IsAscii x
    ascii [] e = IsAscii-nil
    ascii (b ∷ x) e = let p = and_true (ltb b 128) (is_ascii x) e in IsAscii-cons b x (low b p.0) (ascii x p.1)
      where
        low : (b : ℕ) → ltb b 128 ≡ true → b < 128
        low b e = grind (arith, nat_tests)

digit_low : (d : ℕ) → is_digit d ≡ true → ltb d 128 ≡ true
digit_low d e = grind (arith, nat_tests)

digits_ascii : (ds : List ℕ) → list_all is_digit ds ≡ true → is_ascii ds ≡ true
digits_ascii [] e = refl
digits_ascii (d ∷ ds) e = let p = and_true (is_digit d) (list_all is_digit ds) e in rw (digit_low d p.0) (digits_ascii ds p.1)

integer_ascii : (limit : ℕ) (field : List ℕ) (z : ℤ) → SpellsInteger limit field z → is_ascii field ≡ true
integer_ascii limit field z (inl h) = digits_ascii field h.1.1
integer_ascii limit field z (inr h) = ap is_ascii h.2 ∙ digits_ascii h.0 h.3.1

swapped_low : (b : ℕ) → ltb b 128 ≡ true → ltb (escaped (unescaped b)) 128 ≡ true
swapped_low b e = grind (arith, nat_tests)

text_ascii : (bs : List ℕ) → is_ascii bs ≡ true → is_ascii (map escaped (map unescaped bs)) ≡ true
text_ascii [] e = refl
text_ascii (b ∷ bs) e = let p = and_true (ltb b 128) (is_ascii bs) e in rw (swapped_low b p.0) (text_ascii bs p.1)

cell_utf8 : (c : ColumnValue) (field : List ℕ) (x : Cell) → SpellsField c field x → IsUtf8 field → IsUtf8 (written_cell x)
cell_utf8 c field Nothing s u = IsUtf8-nil
cell_utf8 c field (Text t) s u = subst (λ (l : List ℕ). IsUtf8 (map escaped l)) (sym s.2) (IsUtf8-escaped (map unescaped field) (IsUtf8-unescaped field u))
cell_utf8 c field (Number z) s u = ascii_utf8 (signed_decimal z) (integer_ascii (limit_of c.width) (signed_decimal z) z (integer_written (limit_of c.width) field z (limit_small c.width) s.1))

cell_ascii : (c : ColumnValue) (field : List ℕ) (x : Cell) → SpellsField c field x → is_ascii field ≡ true → is_ascii (written_cell x) ≡ true
cell_ascii c field Nothing s u = refl
cell_ascii c field (Text t) s u = ap (λ (l : List ℕ). is_ascii (map escaped l)) s.2 ∙ text_ascii field u
cell_ascii c field (Number z) s u = integer_ascii (limit_of c.width) (signed_decimal z) z (integer_written (limit_of c.width) field z (limit_small c.width) s.1)

cells_utf8 : (cs : List ColumnValue) (fs : List (List ℕ)) (xs : List Cell) → SpellsFields cs fs xs → AllByRecursion IsUtf8 fs → AllByRecursion IsUtf8 (map written_cell xs)
cells_utf8 [] [] [] s u = tt
cells_utf8 [] [] (x ∷ xs) s u = absurd s
cells_utf8 [] (f ∷ fs) xs s u = absurd s
cells_utf8 (c ∷ cs) [] xs s u = absurd s
cells_utf8 (c ∷ cs) (f ∷ fs) [] s u = absurd s
cells_utf8 (c ∷ cs) (f ∷ fs) (x ∷ xs) s u = (cell_utf8 c f x s.0 u.0, cells_utf8 cs fs xs s.1 u.1)

cells_ascii : (cs : List ColumnValue) (fs : List (List ℕ)) (xs : List Cell) → SpellsFields cs fs xs → AllByRecursion (λ f. is_ascii f ≡ true) fs → AllByRecursion (λ f. is_ascii f ≡ true) (map written_cell xs)
cells_ascii [] [] [] s u = tt
cells_ascii [] [] (x ∷ xs) s u = absurd s
cells_ascii [] (f ∷ fs) xs s u = absurd s
cells_ascii (c ∷ cs) [] xs s u = absurd s
cells_ascii (c ∷ cs) (f ∷ fs) [] s u = absurd s
cells_ascii (c ∷ cs) (f ∷ fs) (x ∷ xs) s u = (cell_ascii c f x s.0 u.0, cells_ascii cs fs xs s.1 u.1)

cells_round : (cs : List ColumnValue) (fs : List (List ℕ)) (xs : List Cell) → SpellsFields cs fs xs → SpellsFields cs (map written_cell xs) xs
cells_round [] [] [] s = tt
cells_round [] [] (x ∷ xs) s = absurd s
cells_round [] (f ∷ fs) xs s = absurd s
cells_round (c ∷ cs) [] xs s = absurd s
cells_round (c ∷ cs) (f ∷ fs) [] s = absurd s
cells_round (c ∷ cs) (f ∷ fs) (x ∷ xs) s = (round_cell c f x s.0, cells_round cs fs xs s.1)

cells_clean : (cs : List ColumnValue) (fs : List (List ℕ)) (xs : List Cell) → SpellsFields cs fs xs → Clean (map written_cell xs)
cells_clean [] [] [] s = tt
cells_clean [] [] (x ∷ xs) s = absurd s
cells_clean [] (f ∷ fs) xs s = absurd s
cells_clean (c ∷ cs) [] xs s = absurd s
cells_clean (c ∷ cs) (f ∷ fs) [] s = absurd s
cells_clean (c ∷ cs) (f ∷ fs) (x ∷ xs) s = (clean_cell c f x s.0, cells_clean cs fs xs s.1)

-- ---- rows

ascii_parts : (x : List ℕ) → is_ascii x ≡ true → AllByRecursion (λ f. is_ascii f ≡ true) (fields_of x)
ascii_parts [] e = (refl, tt)
ascii_parts (b ∷ x) e =
    let p = and_true (ltb b 128) (is_ascii x) e in
    let rest = ascii_parts x p.1 in
    elim (cases_Bool (eqb b 9)) [
      | inl t ↦ rw t (refl, rest)
      | inr f ↦ rw f (onto (fields_of x) b p.0 rest)
    ]
  where
    onto : (parts : List (List ℕ)) (b : ℕ) → ltb b 128 ≡ true → AllByRecursion (λ f. is_ascii f ≡ true) parts → AllByRecursion (λ f. is_ascii f ≡ true) (onto_first b parts)
    onto [] b low all = (rw low refl, tt)
    onto (part ∷ parts) b low all = (rw low all.0, all.1)

cells_some : (cs : List ColumnValue) (fs : List (List ℕ)) (xs : List Cell) → SpellsFields cs fs xs → cs ≢ [] → map written_cell xs ≢ []
cells_some [] fs xs s some = absurd (some refl)
cells_some (c ∷ cs) [] xs s some = absurd s
cells_some (c ∷ cs) (f ∷ fs) [] s some = absurd s
cells_some (c ∷ cs) (f ∷ fs) (x ∷ xs) s some = cons_not (written_cell x) (map written_cell xs)

row_again : (page : Option ℕ) (cs : List ColumnValue) (line : List ℕ) (xs : List Cell) → cs ≢ [] → SpellsRow page cs line xs → SpellsRow page cs (written_row xs) xs
row_again page cs line xs some s =
    let fields : fields_of (written_row xs) ≡ map written_cell xs = fields_of_join (map written_cell xs) (cells_some cs (fields_of line) xs s.1 some) (clean_tabs (map written_cell xs) (cells_clean cs (fields_of line) xs s.1)) in (
      (
        parts_utf8 (map written_cell xs) (cells_utf8 cs (fields_of line) xs s.1 (utf8_fields line s.0.0)),
        λ p. join_ascii (map written_cell xs) (cells_ascii cs (fields_of line) xs s.1 (ascii_parts line (s.0.1 p))),
      ),
      subst (λ (fs : List (List ℕ)). SpellsFields cs fs xs) (sym fields) (cells_round cs (fields_of line) xs s.1),
    )

rows_again : (page : Option ℕ) (cs : List ColumnValue) (lines : List (List ℕ)) (rows : List (List Cell)) → cs ≢ [] → AllZip (SpellsRow page cs) lines rows → AllZip (SpellsRow page cs) (map written_row rows) rows
rows_again page cs [] [] some s = tt
rows_again page cs [] (r ∷ rows) some s = absurd s
rows_again page cs (l ∷ lines) [] some s = absurd s
rows_again page cs (l ∷ lines) (r ∷ rows) some s = (row_again page cs l r some s.0, rows_again page cs lines rows some s.1)

rows_no_end : (page : Option ℕ) (cs : List ColumnValue) (lines : List (List ℕ)) (rows : List (List Cell)) → AllZip (SpellsRow page cs) lines rows → AllByRecursion NoEnd (map written_row rows)
rows_no_end page cs [] [] s = tt
rows_no_end page cs [] (r ∷ rows) s = absurd s
rows_no_end page cs (l ∷ lines) [] s = absurd s
rows_no_end page cs (l ∷ lines) (r ∷ rows) s = (join_all (λ b. eqb b 10 ≡ false) (map written_cell r) refl (clean_ends (map written_cell r) (cells_clean cs (fields_of l) r s.0.1)), rows_no_end page cs lines rows s.1)

rows_as_many : (page : Option ℕ) (cs : List ColumnValue) (lines : List (List ℕ)) (rows : List (List Cell)) → AllZip (SpellsRow page cs) lines rows → length (map written_row rows) ≡ length lines
rows_as_many page cs [] [] s = refl
rows_as_many page cs [] (r ∷ rows) s = absurd s
rows_as_many page cs (l ∷ lines) [] s = absurd s
rows_as_many page cs (l ∷ lines) (r ∷ rows) s = let h = rows_as_many page cs lines rows s.1 in omega arith

-- ---- definitions

width_again : (letter : ℕ) (digits : List ℕ) (w : ℕ) → IsWidth letter digits w → IsWidth letter (decimal w) w
width_again letter digits w (inl h) = inl (h.0, decimal_spells w (omega (arith, h.2)), h.2)
width_again letter digits w (inr (inl h)) = inr (inl (h.0, decimal_digit w (small w h.2), h.2))
  where
    small : (w : ℕ) → (w ≡ 2) ⊎ (w ≡ 4) → w < 10
    small w (inl e) = omega arith
    small w (inr e) = omega arith
width_again letter digits w (inr (inr h)) = inr (inr (h.0, ap decimal h.2 ∙ decimal_digit 0 (omega arith), h.2))

definition_again : (field : List ℕ) (c : ColumnValue) → SpellsDefinition field c → SpellsDefinition (written_definition c) c
definition_again field c s = (decimal c.width, refl, width_again c.letter s.0 c.width s.2)

definitions_again : (fields : List (List ℕ)) (cs : List ColumnValue) → AllZip SpellsDefinition fields cs → AllZip SpellsDefinition (map written_definition cs) cs
definitions_again [] [] s = tt
definitions_again [] (c ∷ cs) s = absurd s
definitions_again (f ∷ fields) [] s = absurd s
definitions_again (f ∷ fields) (c ∷ cs) s = (definition_again f c s.0, definitions_again fields cs s.1)

letter_clean : (letter : ℕ) (digits : List ℕ) (w : ℕ) → IsWidth letter digits w → (is_clean letter ≡ true) × (ltb letter 128 ≡ true)
letter_clean letter digits w (inl h) = let t = h.0 in (grind (arith, nat_tests), grind (arith, nat_tests))
letter_clean letter digits w (inr (inl h)) = let t = h.0 in (grind (arith, nat_tests), grind (arith, nat_tests))
letter_clean letter digits w (inr (inr h)) = let t = h.0 in (grind (arith, nat_tests), grind (arith, nat_tests))

width_small : (letter : ℕ) (digits : List ℕ) (w : ℕ) → IsWidth letter digits w → w < 2 ^ 64
width_small letter digits w (inl h) = omega (arith, h.2)
width_small letter digits w (inr (inl (a, b, inl e))) = omega (arith, e)
width_small letter digits w (inr (inl (a, b, inr e))) = omega (arith, e)
width_small letter digits w (inr (inr h)) = omega (arith, h.2)

definitions_clean : (fields : List (List ℕ)) (cs : List ColumnValue) → AllZip SpellsDefinition fields cs → Clean (map written_definition cs) × AllByRecursion IsUtf8 (map written_definition cs)
definitions_clean [] [] s = (tt, tt)
definitions_clean [] (c ∷ cs) s = absurd s
definitions_clean (f ∷ fields) [] s = absurd s
definitions_clean (f ∷ fields) (c ∷ cs) s =
    let letter = letter_clean c.letter s.0.0 c.width s.0.2 in
    let digits = decimal_spells c.width (width_small c.letter s.0.0 c.width s.0.2) in
    let rest = definitions_clean fields cs s.1 in
    let clean : list_all is_clean (written_definition c) ≡ true = rw letter.0 (clean_digits (decimal c.width) digits.1) in
    let ascii : is_ascii (written_definition c) ≡ true = rw letter.1 (digits_ascii (decimal c.width) digits.1) in
    ((clean, rest.0), (ascii_utf8 (written_definition c) ascii, rest.1))

-- ---- line 3

at_place : (xs : List (List ℕ)) (i : ℕ) (x : List ℕ) → slice_get xs i ≡ Some x → get_or xs i [] ≡ x
at_place [] i x e = absurd cc
at_place (y ∷ xs) zero x e = cc
at_place (y ∷ xs) (suc i) x e = at_place xs i x e

keys_at : (cs : List ColumnValue) (names : List (List ℕ)) (keys : List (List ℕ)) (places : List ℕ) → names ≡ names_of cs → AllZip (λ key i. slice_get names i ≡ Some key) keys places → names_at cs places ≡ keys
keys_at cs names [] [] e s = refl
keys_at cs names [] (i ∷ places) e s = absurd s
keys_at cs names (k ∷ keys) [] e s = absurd s
keys_at cs names (k ∷ keys) (i ∷ places) e s = (λ n. (ap (λ (l : List (List ℕ)). get_or l i []) (sym e) ∙ at_place names i k s.0) n ∷ keys_at cs names keys places e s.1 n)

page_small : (n : ℕ) → IsKnownPage n → n < 2 ^ 64
page_small n (inl e) = omega arith
page_small n (inr (inl e)) = omega arith
page_small n (inr (inr e)) = omega arith

-- line 3 as it is written
pub record HeadAgain (page : Option ℕ) (name : List ℕ) (keys : List (List ℕ)) : Type 0 where
  some : written_page page ++ name ∷ keys ≢ []
  no_tabs : AllByRecursion NoTab (written_page page ++ name ∷ keys)
  no_ends : AllByRecursion NoEnd (written_page page ++ name ∷ keys)
  texts : AllByRecursion IsUtf8 (written_page page ++ name ∷ keys)
  says : (fields : List (List ℕ)) → fields ≡ written_page page ++ name ∷ keys → SpellsHead page fields name keys

head_again : (page : Option ℕ) (line : List ℕ) (name : List ℕ) (keys : List (List ℕ)) → NoEnd line → IsUtf8 line → SpellsHead page (fields_of line) name keys → HeadAgain page name keys
head_again None line name keys ends text h = record {
  some = cons_not name keys;
  no_tabs = subst (AllByRecursion NoTab) h.0 (fields_no_tab line);
  no_ends = subst (AllByRecursion NoEnd) h.0 (fields_no_end line ends);
  texts = subst (AllByRecursion IsUtf8) h.0 (utf8_fields line text);
  says = λ fields e. (e, h.1);
}
head_again (Some n) line name keys ends text h =
    let digits = decimal_spells n (page_small n h.3) in
    let clean : list_all is_clean (decimal n) ≡ true = clean_digits (decimal n) digits.1 in
    let tabs = subst (AllByRecursion NoTab) h.1 (fields_no_tab line) in
    let lines_end = subst (AllByRecursion NoEnd) h.1 (fields_no_end line ends) in
    let utf8 = subst (AllByRecursion IsUtf8) h.1 (utf8_fields line text) in
    record {
      some = cons_not (decimal n) (name ∷ keys);
      no_tabs = (no_tab (decimal n) clean, tabs.1);
      no_ends = (no_end (decimal n) clean, lines_end.1);
      texts = (ascii_utf8 (decimal n) (digits_ascii (decimal n) digits.1), utf8.1);
      says = λ fields e. (decimal n, e, digits, h.3);
    }

-- ---- the table

split_not_empty : (line : List ℕ) → fields_of line ≢ []
split_not_empty line e = let s = split_some (λ b. eqb b 9) line in cons_not s.0 s.1 (sym s.2 ∙ e)

columns_some : (line : List ℕ) (cs : List ColumnValue) → fields_of line ≡ names_of cs → cs ≢ []
columns_some line cs named none = split_not_empty line (named ∙ ap names_of none)

definitions_some : (cs : List ColumnValue) → cs ≢ [] → map written_definition cs ≢ []
definitions_some [] some e = some refl
definitions_some (c ∷ cs) some e = cons_not (written_definition c) (map written_definition cs) e

first_of : (a b c : List ℕ) (rows ls : List (List ℕ)) → ls ≡ a ∷ b ∷ c ∷ rows → AllByRecursion NoEnd ls → NoEnd a × NoEnd b × NoEnd c
first_of a b c rows ls e all = let h = subst (AllByRecursion NoEnd) e all in (h.0, h.1.0, h.1.1.0)

pub written_again : (bytes : List ℕ) (t : TableValue) → Spells bytes t → length (written t) ≤ 16777216 → Spells (written t) t
unfolding written
written_again bytes t s short =
    let l = s.spelled in
    let ends = first_of s.names s.definitions s.head s.rows (lines bytes) s.lines_are (lines_no_end bytes) in
    let cs : List ColumnValue = t.columns in
    let some : cs ≢ [] = columns_some s.names cs l.named in
    let names_line : join_with_byte 9 (names_of cs) ≡ s.names = ap (join_with_byte 9) (sym l.named) ∙ join_with_byte-slice_split 9 s.names in
    let names_fields : fields_of (join_with_byte 9 (names_of cs)) ≡ fields_of s.names = ap fields_of names_line in
    let defined = definitions_clean (fields_of s.definitions) cs l.defined in
    let definitions_line : fields_of (join_with_byte 9 (map written_definition cs)) ≡ map written_definition cs = fields_of_join (map written_definition cs) (definitions_some cs some) (clean_tabs (map written_definition cs) defined.0) in
    let keys : names_at cs t.keys ≡ l.key_names = keys_at cs (fields_of s.names) l.key_names t.keys l.named l.keyed.1 in
    let head = head_again t.page s.head t.name l.key_names ends.2 l.texts.2 l.headed in
    let parts : written_page t.page ++ t.name ∷ names_at cs t.keys ≡ written_page t.page ++ t.name ∷ l.key_names = ap (λ (ks : List (List ℕ)). written_page t.page ++ t.name ∷ ks) keys in
    let head_fields : fields_of (join_with_byte 9 (written_page t.page ++ t.name ∷ names_at cs t.keys)) ≡ written_page t.page ++ t.name ∷ l.key_names = ap (λ (ps : List (List ℕ)). fields_of (join_with_byte 9 ps)) parts ∙ fields_of_join (written_page t.page ++ t.name ∷ l.key_names) head.some head.no_tabs in
    record {
      small = short;
      names = join_with_byte 9 (names_of cs);
      definitions = join_with_byte 9 (map written_definition cs);
      head = join_with_byte 9 (written_page t.page ++ t.name ∷ names_at cs t.keys);
      rows = map written_row t.rows;
      lines_are = lines_written (written_lines t) (
        subst NoEnd (sym names_line) ends.0,
        (
          join_all (λ b. eqb b 10 ≡ false) (map written_definition cs) refl (clean_ends (map written_definition cs) defined.0),
          (
            subst (λ (ps : List (List ℕ)). NoEnd (join_with_byte 9 ps)) (sym parts) (join_all (λ b. eqb b 10 ≡ false) (written_page t.page ++ t.name ∷ l.key_names) refl head.no_ends),
            rows_no_end t.page cs s.rows t.rows l.rows_are,
          ),
        ),
      );
      spelled = record {
        few_rows = omega (arith, rows_as_many t.page cs s.rows t.rows l.rows_are, l.few_rows);
        few_columns = subst (λ (fs : List (List ℕ)). length fs ≤ 32) (sym names_fields) l.few_columns;
        texts = (subst IsUtf8 (sym names_line) l.texts.0, parts_utf8 (map written_definition cs) defined.1, subst (λ (ps : List (List ℕ)). IsUtf8 (join_with_byte 9 ps)) (sym parts) (parts_utf8 (written_page t.page ++ t.name ∷ l.key_names) head.texts));
        named = names_fields ∙ l.named;
        no_empty_name = subst (All (λ n. n ≢ [])) (sym names_fields) l.no_empty_name;
        names_apart = subst (AllPairs (λ m n. m ≢ n)) (sym names_fields) l.names_apart;
        defined = subst (λ (fs : List (List ℕ)). AllZip SpellsDefinition fs cs) (sym definitions_line) (definitions_again (fields_of s.definitions) cs l.defined);
        key_names = l.key_names;
        headed = head.says _ head_fields;
        keyed = subst (λ (fs : List (List ℕ)). SpellsKeys fs l.key_names t.keys) (sym names_fields) l.keyed;
        rows_are = rows_again t.page cs s.rows t.rows some l.rows_are;
        keys_apart = l.keys_apart;
      };
    }

pub written_spells : (bytes : List ℕ) (t : Table) → IsSpelledBy bytes t → length (written (meaning t)) ≤ 16777216 → Spells (written (meaning t)) (meaning t)
written_spells bytes t s short = written_again bytes (meaning t) s.spells short
