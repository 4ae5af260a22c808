-- A field has no fault exactly where it spells a cell, and what is written of a cell spells it again.
use Rattle.std.proofs.Common.{◌≡◌, ℕ, ◌+◌, ◌^◌, ◌≤◌, ◌<◌, eqb, Bool, true, false, not, cond, ◌&&◌, List, [], ◌∷◌, length, map, Option, Some, None, ℤ, refl, sym, ap, subst, ◌∙◌, arith, inl, inr}
use Rattle.std.specs.List.{list_all, AllZip}
use Rattle.std.specs.Str.{is_utf8}
use Rattle.std.specs.Fmt.{signed_decimal}
use Rattle.std.proofs.lemmas.Bool.Decides.{nat_tests}
use Rattle.std.proofs.lemmas.Bool.{cases_Bool, eqb-true}
use Rattle.std.proofs.lemmas.Str.{IsUtf8-from_is_utf8, is_utf8-from_IsUtf8}
use Rattle.mi_text.specs.declared.answers.IdtFault.{IdtFault}
use Rattle.mi_text.specs.declared.answers.IdtFault.TheVariants as fault
use Rattle.mi_idt.specs.Cells.{Cell, Nothing, Text, Number, ColumnValue}
use Rattle.mi_idt.specs.Columns.{◌or_else◌, is_int, is_nullable, limit_of}
use Rattle.mi_idt.specs.Fields.{fields_of, unescaped, is_digit, is_ascii, integer_within}
use Rattle.mi_idt.specs.Rows.{cell_in, cell_of, cells_of, is_in_page, is_line, field_fault, fields_fault, line_fault, rows_fault}
use Rattle.mi_idt.specs.Spells.{SpellsInteger, SpellsField, SpellsFields, IsLine, SpellsRow}
use Rattle.mi_idt.specs.Written.{escaped, written_cell}
use Rattle.mi_idt.proofs.Basics.{and_true, cons_not, some_length, option_cases}
use Rattle.mi_idt.proofs.Faults.{or-none}
use Rattle.mi_idt.proofs.Numbers.{integer_is, is_integer, integer_written}

pub limit_small : (width : ℕ) → limit_of width < 2 ^ 32
limit_small width = elim (cases_Bool (eqb width 2)) [ inl t ↦ rw t (omega arith) | inr f ↦ rw f (omega arith) ]

pub limit_most : (width : ℕ) → limit_of width ≤ 2147483647
limit_most width = elim (cases_Bool (eqb width 2)) [ inl t ↦ rw t (omega arith) | inr f ↦ rw f (omega arith) ]

-- ---- one field

field_is : (c : ColumnValue) (row place : ℕ) (field : List ℕ) → field_fault c row place field ≡ None → SpellsField c field (cell_of c field)
field_is c row place [] e =
    elim (cases_Bool (is_nullable c.letter)) [
      | inl n ↦ (refl, n)
      | inr n ↦ let f : field_fault c row place [] ≡ Some (fault.Null row place) = rw n refl in absurd cc
    ]
field_is c row place (b ∷ bs) e =
    elim (cases_Bool (is_int c.letter)) [
      | inr t ↦ subst (λ (i : Bool). SpellsField c (b ∷ bs) (cell_in i (limit_of c.width) (b ∷ bs))) (sym t) (cons_not b bs, t, refl)
      | inl t ↦
          elim (option_cases (integer_within (limit_of c.width) (b ∷ bs))) [
            | inl n ↦ let f : field_fault c row place (b ∷ bs) ≡ Some (fault.Integer row place) = rw (some_length b bs, t, n) refl in absurd cc
            | inr s ↦
                let cell : cell_of c (b ∷ bs) ≡ Number s.0 = rw (t, s.1) refl in
                subst (SpellsField c (b ∷ bs)) (sym cell) (t, integer_is (limit_of c.width) (b ∷ bs) s.0 s.1)
          ]
    ]

pub is_field : (c : ColumnValue) (row place : ℕ) (field : List ℕ) (x : Cell) → SpellsField c field x → (field_fault c row place field ≡ None) × (x ≡ cell_of c field)
is_field c row place [] Nothing s = (rw s.1 refl, refl)
is_field c row place (b ∷ bs) Nothing s = absurd (cons_not b bs s.0)
is_field c row place [] (Text t) s = absurd (s.0 refl)
is_field c row place (b ∷ bs) (Text t) s =
    let none : field_fault c row place (b ∷ bs) ≡ None = rw (some_length b bs, s.1) refl in
    let cell : cell_of c (b ∷ bs) ≡ Text (map unescaped (b ∷ bs)) = rw s.1 refl in
    (none, ap Text s.2 ∙ sym cell)
is_field c row place [] (Number z) s = let n = is_integer (limit_of c.width) [] z s.1 in absurd cc
is_field c row place (b ∷ bs) (Number z) s =
    let read : integer_within (limit_of c.width) (b ∷ bs) ≡ Some z = is_integer (limit_of c.width) (b ∷ bs) z s.1 in
    let none : field_fault c row place (b ∷ bs) ≡ None = rw (some_length b bs, s.0, read) refl in
    let cell : cell_of c (b ∷ bs) ≡ Number z = rw (s.0, read) refl in
    (none, sym cell)

-- one column and one field have one cell
pub same_field : (c : ColumnValue) (field : List ℕ) (x y : Cell) → SpellsField c field x → SpellsField c field y → x ≡ y
same_field c field x y s t = (is_field c 0 0 field x s).1 ∙ sym (is_field c 0 0 field y t).1

-- ---- what is written of a cell

kept : (b : ℕ) → unescaped (escaped (unescaped b)) ≡ unescaped b
kept b = grind (arith, nat_tests)

all_kept : (bs : List ℕ) → map unescaped bs ≡ map unescaped (map escaped (map unescaped bs))
all_kept [] = refl
all_kept (b ∷ bs) = (λ i. sym (kept b) i ∷ all_kept bs i)

pub round_cell : (c : ColumnValue) (field : List ℕ) (x : Cell) → SpellsField c field x → SpellsField c (written_cell x) x
round_cell c field Nothing s = (refl, s.1)
round_cell c [] (Text t) s = absurd (s.0 refl)
round_cell c (b ∷ bs) (Text t) s = subst (λ (u : List ℕ). SpellsField c (map escaped u) (Text u)) (sym s.2) (cons_not (escaped (unescaped b)) (map escaped (map unescaped bs)), s.1, all_kept (b ∷ bs))
round_cell c field (Number z) s = (s.0, integer_written (limit_of c.width) field z (limit_small c.width) s.1)

-- neither a tab nor a line's end
abbrev pub is_clean : ℕ → Bool
is_clean b = not (eqb b 9) && not (eqb b 10)

clean_escaped : (b : ℕ) → is_clean (escaped b) ≡ true
clean_escaped b = grind (arith, nat_tests)

all_clean : (bs : List ℕ) → list_all is_clean (map escaped bs) ≡ true
all_clean [] = refl
all_clean (b ∷ bs) = rw (clean_escaped b) (all_clean bs)

clean_digit : (b : ℕ) → is_digit b ≡ true → is_clean b ≡ true
clean_digit b e = grind (arith, nat_tests)

pub clean_digits : (ds : List ℕ) → list_all is_digit ds ≡ true → list_all is_clean ds ≡ true
clean_digits [] e = refl
clean_digits (d ∷ ds) e = let p = and_true (is_digit d) (list_all is_digit ds) e in rw (clean_digit d p.0) (clean_digits ds p.1)

clean_integer : (limit : ℕ) (field : List ℕ) (z : ℤ) → SpellsInteger limit field z → list_all is_clean field ≡ true
clean_integer limit field z (inl h) = clean_digits field h.1.1
clean_integer limit field z (inr h) = ap (list_all is_clean) h.2 ∙ clean_digits h.0 h.3.1

pub clean_cell : (c : ColumnValue) (field : List ℕ) (x : Cell) → SpellsField c field x → list_all is_clean (written_cell x) ≡ true
clean_cell c field Nothing s = refl
clean_cell c field (Text t) s = all_clean t
clean_cell c field (Number z) s = let r = round_cell c field (Number z) s in clean_integer (limit_of c.width) (signed_decimal z) z r.1

-- ---- the fields of a row

fields_are : (row place : ℕ) (cs : List ColumnValue) (fs : List (List ℕ)) → length fs ≡ length cs → fields_fault row place cs fs ≡ None → SpellsFields cs fs (cells_of cs fs)
fields_are row place [] [] l e = tt
fields_are row place [] (f ∷ fs) l e = absurd (omega arith)
fields_are row place (c ∷ cs) [] l e = absurd (omega arith)
fields_are row place (c ∷ cs) (f ∷ fs) l e =
    let o = or-none (field_fault c row place f) (fields_fault row (place + 1) cs fs) e in
    (field_is c row place f o.0, fields_are row (place + 1) cs fs (omega arith) o.1)

pub are_fields : (row place : ℕ) (cs : List ColumnValue) (fs : List (List ℕ)) (xs : List Cell) → SpellsFields cs fs xs → (fields_fault row place cs fs ≡ None) × (xs ≡ cells_of cs fs) × (length fs ≡ length cs)
are_fields row place [] [] [] s = (refl, refl, refl)
are_fields row place [] [] (x ∷ xs) s = absurd s
are_fields row place [] (f ∷ fs) xs s = absurd s
are_fields row place (c ∷ cs) [] xs s = absurd s
are_fields row place (c ∷ cs) (f ∷ fs) [] s = absurd s
are_fields row place (c ∷ cs) (f ∷ fs) (x ∷ xs) s =
    let h = is_field c row place f x s.0 in
    let t = are_fields row (place + 1) cs fs xs s.1 in
    (ap (λ (o : Option IdtFault). o or_else fields_fault row (place + 1) cs fs) h.0 ∙ t.0, (λ i. h.1 i ∷ t.1 i), omega (arith, t.2))

-- ---- lines

line_is : (page : Option ℕ) (line : List ℕ) → is_line page line ≡ true → IsLine page line
line_is page line e = (IsUtf8-from_is_utf8 line (front (is_utf8 line) (is_in_page page line) e), ascii page line (back (is_utf8 line) (is_in_page page line) e))
  where
    front : (a b : Bool) → (a && b) ≡ true → a ≡ true
    front true b e = refl
    front false b e = absurd cc

    back : (a b : Bool) → (a && b) ≡ true → b ≡ true
    back true b e = e
    back false b e = absurd cc

    ascii : (page : Option ℕ) (line : List ℕ) → is_in_page page line ≡ true → page ≡ Some 1252 → is_ascii line ≡ true
    ascii None line e p = absurd cc
    ascii (Some n) line e p =
        let is : n ≡ 1252 = cc in
        let tests : eqb n 1252 ≡ true = grind (arith, nat_tests) in
        sym (ap (λ (b : Bool). cond b (is_ascii line) true) tests) ∙ e

is_line_of : (page : Option ℕ) (line : List ℕ) → IsLine page line → is_line page line ≡ true
is_line_of page line h = rw (is_utf8-from_IsUtf8 line h.0) (in_page page line h.1)
  where
    in_page : (page : Option ℕ) (line : List ℕ) → (page ≡ Some 1252 → is_ascii line ≡ true) → is_in_page page line ≡ true
    in_page None line ascii = refl
    in_page (Some n) line ascii = elim (cases_Bool (eqb n 1252)) [ inl t ↦ rw t (ascii (ap Some (eqb-true n 1252 t))) | inr f ↦ rw f refl ]

-- ---- rows

abbrev pub cells_in : List ColumnValue → List ℕ → List Cell
cells_in cs line = cells_of cs (fields_of line)

row_is : (page : Option ℕ) (cs : List ColumnValue) (row : ℕ) (line : List ℕ) → line_fault page cs row line ≡ None → SpellsRow page cs line (cells_in cs line)
row_is page cs row line e =
    elim (cases_Bool (is_line page line)) [
      | inr bad ↦ let f : line_fault page cs row line ≡ Some (fault.NotUtf8 (row + 3)) = rw bad refl in absurd cc
      | inl good ↦
          elim (cases_Bool (eqb (length (fields_of line)) (length cs))) [
            | inr other ↦ let f : line_fault page cs row line ≡ Some (fault.ColumnCount (row + 3)) = rw (good, other) refl in absurd cc
            | inl same ↦
                let inside : line_fault page cs row line ≡ fields_fault row 1 cs (fields_of line) = rw (good, same) refl in
                (line_is page line good, fields_are row 1 cs (fields_of line) (eqb-true _ _ same) (sym inside ∙ e))
          ]
    ]

is_row : (page : Option ℕ) (cs : List ColumnValue) (row : ℕ) (line : List ℕ) (xs : List Cell) → SpellsRow page cs line xs → (line_fault page cs row line ≡ None) × (xs ≡ cells_in cs line)
is_row page cs row line xs s =
    let h = are_fields row 1 cs (fields_of line) xs s.1 in
    let same : eqb (length (fields_of line)) (length cs) ≡ true = grind (arith, nat_tests, h.2) in
    let inside : line_fault page cs row line ≡ fields_fault row 1 cs (fields_of line) = rw (is_line_of page line s.0, same) refl in
    (inside ∙ h.0, h.1)

pub rows_are : (page : Option ℕ) (cs : List ColumnValue) (row : ℕ) (lines : List (List ℕ)) → rows_fault page cs row lines ≡ None → AllZip (SpellsRow page cs) lines (map (cells_in cs) lines)
rows_are page cs row [] e = tt
rows_are page cs row (line ∷ lines) e =
    let o = or-none (line_fault page cs row line) (rows_fault page cs (row + 1) lines) e in
    (row_is page cs row line o.0, rows_are page cs (row + 1) lines o.1)

pub are_rows : (page : Option ℕ) (cs : List ColumnValue) (row : ℕ) (lines : List (List ℕ)) (rows : List (List Cell)) → AllZip (SpellsRow page cs) lines rows → (rows_fault page cs row lines ≡ None) × (rows ≡ map (cells_in cs) lines)
are_rows page cs row [] [] s = (refl, refl)
are_rows page cs row [] (r ∷ rows) s = absurd s
are_rows page cs row (line ∷ lines) [] s = absurd s
are_rows page cs row (line ∷ lines) (r ∷ rows) s =
    let h = is_row page cs row line r s.0 in
    let t = are_rows page cs (row + 1) lines rows s.1 in
    (ap (λ (o : Option IdtFault). o or_else rows_fault page cs (row + 1) lines) h.0 ∙ t.0, (λ i. h.1 i ∷ t.1 i))
