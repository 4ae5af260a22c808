-- What is known of a table in memory that some bytes spell.
use Rattle.std.proofs.Common.{◌≡◌, ℕ, zero, suc, ◌<◌, eqb, eqb-true, eq-eqb, ltb, Bool, true, false, ◌||◌, List, [], ◌∷◌, length, map, get_or, Option, Some, None, option_map, Result, Ok, Err, IfOk, ℤ, refl, sym, ap, subst, ◌∙◌, arith, inl, inr, Bor}
use Rattle.std.specs.List.{AllZip, list_all, All, onto_first}
use Rattle.std.proofs.lemmas.Bool.{cases_Bool}
use Rattle.std.proofs.lemmas.Bool.Decides.{nat_tests}
use Rattle.std.proofs.lemmas.List.{length-map, get_or-map}
use Rattle.std.proofs.lemmas.List.Splits.{slice_split-cons_yes, slice_split-cons_no}
use Rattle.mi_idt.specs.declared.table.Row.{Row}
use Rattle.mi_idt.specs.declared.table.Table.{Table}
use Rattle.mi_idt.specs.Cells.{Cell, Nothing, Text, Number, ColumnValue}
use Rattle.mi_idt.specs.Columns.{limit_of}
use Rattle.mi_idt.specs.Fields.{fields_of, unescaped, is_digit}
use Rattle.mi_idt.specs.Means.{column_value, raw_row, raw, meaning, IsSpelledBy, cell_at, Shows, ShowsRow, text_shown}
use Rattle.mi_idt.specs.Raw.{raw_of_lines, raw_of, field_at, text_of}
use Rattle.mi_idt.specs.RowKey.{IsSpelledRow}
use Rattle.mi_idt.specs.Rows.{cells_of}
use Rattle.mi_idt.specs.Spells.{SpellsRow, SpellsField, SpellsFields, SpellsInteger}
use Rattle.mi_idt.proofs.Basics.{and_true, shown}
use Rattle.mi_idt.proofs.FieldLaws.{limit_most}
use Rattle.mi_idt.proofs.LayLaws.{row_wide}

-- ---- rows

zip_at : {A B : Type 0} (R : A → B → Type 0) (xs : List A) (ys : List B) (i : ℕ) (d : A) (e : B) → AllZip R xs ys → i < length xs → R (get_or xs i d) (get_or ys i e)
zip_at R [] ys i d e s h = absurd (omega arith)
zip_at R (x ∷ xs) [] i d e s h = absurd s
zip_at R (x ∷ xs) (y ∷ ys) zero d e s h = s.0
zip_at R (x ∷ xs) (y ∷ ys) (suc i) d e s h = zip_at R xs ys i d e s.1 (omega arith)

pub raw_lines : (bytes : List ℕ) (t : Table) (s : IsSpelledBy bytes t) → map raw_row t.rows.items ≡ map fields_of s.spells.rows
unfolding raw_of
raw_lines bytes t s = ap (λ r. r.rows) s.stands ∙ ap (λ (ls : List (List ℕ)). (raw_of_lines ls).rows) s.spells.lines_are

row_cells : (bytes : List ℕ) (t : Table) (s : IsSpelledBy bytes t) → AllZip (SpellsRow t.page (map column_value t.columns.items)) s.spells.rows (map (cells_of (map column_value t.columns.items)) (map raw_row t.rows.items))
unfolding meaning
row_cells bytes t s = s.spells.spelled.rows_are

meaning_rows : (t : Table) → (meaning t).rows ≡ map (cells_of (map column_value t.columns.items)) (map raw_row t.rows.items)
unfolding meaning
meaning_rows t = refl

-- the fields of a row of the table spell its cells
row_spells : (bytes : List ℕ) (t : Table) (s : IsSpelledBy bytes t) (row : ℕ) → row < length t.rows.items → SpellsFields (map column_value t.columns.items) (get_or (map raw_row t.rows.items) row []) (get_or (meaning t).rows row [])
row_spells bytes t s row h =
    let cs : List ColumnValue = map column_value t.columns.items in
    let lines : List (List ℕ) = s.spells.rows in
    let cells : List (List Cell) = map (cells_of cs) (map raw_row t.rows.items) in
    let long : length lines ≡ length t.rows.items = sym (length-map lines fields_of) ∙ ap length (sym (raw_lines bytes t s)) ∙ length-map t.rows.items raw_row in
    let within : row < length lines = omega arith in
    let fields : fields_of (get_or lines row []) ≡ get_or (map raw_row t.rows.items) row [] = sym (get_or-map fields_of lines row [] [] within) ∙ ap (λ (fs : List (List (List ℕ))). get_or fs row []) (sym (raw_lines bytes t s)) in
    let spelled = zip_at (SpellsRow t.page cs) lines cells row [] [] (row_cells bytes t s) within in
    subst (λ (rows : List (List Cell)). SpellsFields cs (get_or (map raw_row t.rows.items) row []) (get_or rows row [])) (sym (meaning_rows t)) (subst (λ (fs : List (List ℕ)). SpellsFields cs fs (get_or cells row [])) fields spelled.1)

pub rows_spelled : (bytes : List ℕ) (t : Table) → IsSpelledBy bytes t → All (IsSpelledRow t.columns.items) t.rows.items
unfolding meaning
rows_spelled bytes t s k d h =
    let cs : List ColumnValue = map column_value t.columns.items in
    let row : get_or (map raw_row t.rows.items) k [] ≡ raw_row (get_or t.rows.items k d) = get_or-map raw_row t.rows.items k d [] h in
    let cells : get_or (map (cells_of cs) (map raw_row t.rows.items)) k [] ≡ cells_of cs (raw_row (get_or t.rows.items k d)) = get_or-map (cells_of cs) (map raw_row t.rows.items) k [] [] (omega (arith, h, length-map t.rows.items raw_row)) ∙ ap (cells_of cs) row in
    subst (SpellsFields cs (raw_row (get_or t.rows.items k d))) cells (subst (λ (fs : List (List ℕ)). SpellsFields cs fs (get_or (map (cells_of cs) (map raw_row t.rows.items)) k [])) row (row_spells bytes t s k h))

-- ---- fields

pub spelled_at : (cs : List ColumnValue) (fs : List (List ℕ)) (xs : List Cell) (i : ℕ) (c : ColumnValue) → SpellsFields cs fs xs → i < length cs → SpellsField (get_or cs i c) (get_or fs i []) (get_or xs i Nothing)
spelled_at [] fs xs i c s h = absurd (omega arith)
spelled_at (k ∷ cs) [] xs i c s h = absurd s
spelled_at (k ∷ cs) (f ∷ fs) [] i c s h = absurd s
spelled_at (k ∷ cs) (f ∷ fs) (x ∷ xs) zero c s h = s.0
spelled_at (k ∷ cs) (f ∷ fs) (x ∷ xs) (suc i) c s h = spelled_at cs fs xs i c s.1 (omega arith)

-- a field of a row that was read
pub field_is : (t : Table) (row column : ℕ) (d : Row) (fields : List (Bor (List ℕ))) (e : Bor (List ℕ)) → shown fields ≡ raw_row (get_or t.rows.items row d) → row < length t.rows.items → column < length fields → (get_or fields column e).now ≡ field_at (raw t) row column
field_is t row column d fields e read h within =
    sym (get_or-map (λ (b : Bor (List ℕ)). b.now) fields column e [] within)
    ∙ ap (λ (fs : List (List ℕ)). get_or fs column []) (read ∙ sym (get_or-map raw_row t.rows.items row d [] h))

-- ---- what is shown

pub text_none : (field : List ℕ) → eqb (length field) 0 ≡ true → None ≡ text_of field
text_none [] e = refl
text_none (b ∷ bs) e = let f : eqb (length (b ∷ bs)) 0 ≡ false = grind (arith, nat_tests) in absurd cc

pub text_some : (field : List ℕ) → eqb (length field) 0 ≡ false → Some (map unescaped field) ≡ text_of field
text_some [] e = absurd cc
text_some (b ∷ bs) e = refl

-- of a field in which nothing is escaped
pub text_plain : (field : List ℕ) → list_all (λ b. eqb (unescaped b) b) field ≡ true → map unescaped field ≡ field
text_plain [] e = refl
text_plain (b ∷ bs) e = let p = and_true (eqb (unescaped b) b) (list_all (λ b. eqb (unescaped b) b) bs) e in (λ i. eqb-true (unescaped b) b p.0 i ∷ text_plain bs p.1 i)

plain_text : (field : List ℕ) → map unescaped field ≡ field → list_all (λ b. eqb (unescaped b) b) field ≡ true
plain_text [] e = refl
plain_text (b ∷ bs) e =
    let same : unescaped b ≡ b = cc in
    let rest : map unescaped bs ≡ bs = cc in
    rw (eq-eqb (unescaped b) b same) (plain_text bs rest)

pub not_plain : (field : List ℕ) → eqb (length field) 0 ≡ false → list_all (λ b. eqb (unescaped b) b) field ≡ false → text_of field ≡ Some field → ⊥
not_plain field some other is =
    let whole = text_some field some ∙ is in
    let same : map unescaped field ≡ field = cc in
    let plain = plain_text field same in
    absurd cc

plain_digit : (b : ℕ) → is_digit b ≡ true → unescaped b ≡ b
plain_digit b e = grind (arith, nat_tests)

plain_digits : (ds : List ℕ) → list_all is_digit ds ≡ true → map unescaped ds ≡ ds
plain_digits [] e = refl
plain_digits (d ∷ ds) e = let p = and_true (is_digit d) (list_all is_digit ds) e in (λ i. plain_digit d p.0 i ∷ plain_digits ds p.1 i)

plain_integer : (limit : ℕ) (field : List ℕ) (z : ℤ) → SpellsInteger limit field z → map unescaped field ≡ field
plain_integer limit field z (inl h) = plain_digits field h.1.1
plain_integer limit field z (inr h) = ap (map unescaped) h.2 ∙ ap (λ (l : List ℕ). 45 ∷ l) (plain_digits h.0 h.3.1) ∙ sym h.2

wider : (width : ℕ) (field : List ℕ) (z : ℤ) → SpellsInteger (limit_of width) field z → SpellsInteger 2147483647 field z
wider width field z (inl h) = let m = limit_most width in inl (h.0, h.1, omega (arith, h.2, m), h.3)
wider width field z (inr h) = let m = limit_most width in inr (h.0, h.1, h.2, h.3, omega (arith, h.4, m), h.5)

-- the text of a field shows the cell that the field spells
shows : (c : ColumnValue) (field : List ℕ) (x : Cell) → SpellsField c field x → Shows (text_of field) x
shows c [] Nothing s = tt
shows c (b ∷ bs) Nothing s = let n = s.0 in absurd cc
shows c [] (Text t) s = absurd (s.0 refl)
shows c (b ∷ bs) (Text t) s = sym s.2
shows c [] (Number z) (i, inl h) = absurd (h.1.0 refl)
shows c [] (Number z) (i, inr h) = let n = h.2 in absurd cc
shows c (b ∷ bs) (Number z) s = subst (λ (l : List ℕ). SpellsInteger 2147483647 l z) (sym (plain_integer (limit_of c.width) (b ∷ bs) z s.1)) (wider c.width (b ∷ bs) z s.1)

no_column : ColumnValue
no_column = record { name = []; letter = 0; width = 0 }

pub shows_at : (bytes : List ℕ) (t : Table) → IsSpelledBy bytes t → (row column : ℕ) → row < length t.rows.items → column < length t.columns.items → Shows (text_of (field_at (raw t) row column)) (cell_at (meaning t) row column)
shows_at bytes t s row column h within =
    let cs : List ColumnValue = map column_value t.columns.items in
    let fields : List (List ℕ) = get_or (map raw_row t.rows.items) row [] in
    let cells : List Cell = get_or (meaning t).rows row [] in
    let known : column < length cs = omega (arith, length-map t.columns.items column_value) in
    shows (get_or cs column no_column) (get_or fields column []) (get_or cells column Nothing) (spelled_at cs fields cells column no_column (row_spells bytes t s row h) known)

-- what says the text shows the cell that it shows
pub shows_so : {A E : Type 0} (f : A → List ℕ) (r : Result (Option A) E) (shown : Option (List ℕ)) (x : Cell) → IfOk r (λ text. option_map f text ≡ shown) → Shows shown x → IfOk r (λ text. Shows (option_map f text) x)
shows_so f (Ok text) shown x is s = subst (λ (o : Option (List ℕ)). Shows o x) (sym is) s
shows_so f (Err e) shown x is s = tt

-- ---- the texts of a row

-- a byte that surely stands for itself
abbrev pub is_plain_byte : ℕ → Bool
is_plain_byte b = ltb 27 b || eqb b 9

plain_byte : (b : ℕ) → is_plain_byte b ≡ true → unescaped b ≡ b
plain_byte b e = grind (arith, nat_tests)

pub line_plain : (line : List ℕ) → list_all is_plain_byte line ≡ true → map unescaped line ≡ line
line_plain [] e = refl
line_plain (b ∷ bs) e = let p = and_true (is_plain_byte b) (list_all is_plain_byte bs) e in (λ i. plain_byte b p.0 i ∷ line_plain bs p.1 i)

onto_plain : (b : ℕ) (fs : List (List ℕ)) → unescaped b ≡ b → map (map unescaped) fs ≡ fs → map (map unescaped) (onto_first b fs) ≡ onto_first b fs
onto_plain b [] here rest = (λ i. (here i ∷ []) ∷ [])
onto_plain b (f ∷ fs) here rest =
    let first : map unescaped f ≡ f = cc in
    let others : map (map unescaped) fs ≡ fs = cc in
    (λ i. (here i ∷ first i) ∷ others i)

-- the fields of a line in which each byte stands for itself
pub fields_plain : (line : List ℕ) → map unescaped line ≡ line → map (map unescaped) (fields_of line) ≡ fields_of line
fields_plain [] e = refl
fields_plain (b ∷ bs) e =
    let here : unescaped b ≡ b = cc in
    let rest : map unescaped bs ≡ bs = cc in
    elim (cases_Bool (eqb b 9)) [
      | inl tab ↦ let cut = slice_split-cons_yes (λ b. eqb b 9) b bs tab in ap (map (map unescaped)) cut ∙ ap (λ (fs : List (List ℕ)). [] ∷ fs) (fields_plain bs rest) ∙ sym cut
      | inr other ↦ let cut = slice_split-cons_no (λ b. eqb b 9) b bs other in ap (map (map unescaped)) cut ∙ onto_plain b (fields_of bs) here (fields_plain bs rest) ∙ sym cut
    ]

shown_unescaped : (field : List ℕ) → text_of field ≡ text_shown (map unescaped field)
shown_unescaped [] = refl
shown_unescaped (b ∷ bs) = refl

-- the unescaped fields of a row show its cells
pub shows_row : (bytes : List ℕ) (t : Table) → IsSpelledBy bytes t → (row : ℕ) (d : Row) (texts : List (List ℕ)) → row < length t.rows.items → texts ≡ map (map unescaped) (raw_row (get_or t.rows.items row d)) → ShowsRow t row texts
shows_row bytes t s row d texts h are =
    let fields : List (List ℕ) = raw_row (get_or t.rows.items row d) in
    let wide = row_wide t.columns.items (get_or t.rows.items row d) (rows_spelled bytes t s row d h) in
    let there : get_or (map raw_row t.rows.items) row [] ≡ fields = get_or-map raw_row t.rows.items row d [] h in
    record {
      many = ap length are ∙ length-map fields (map unescaped) ∙ wide;
      cells = λ column within.
          let inside : column < length fields = omega (arith, wide, within) in
          let text : map unescaped (field_at (raw t) row column) ≡ get_or texts column [] = ap (λ (fs : List (List ℕ)). map unescaped (get_or fs column [])) there ∙ sym (get_or-map (map unescaped) fields column [] [] inside) ∙ ap (λ (ts : List (List ℕ)). get_or ts column []) (sym are) in
          subst (λ (o : Option (List ℕ)). Shows o (cell_at (meaning t) row column)) (shown_unescaped (field_at (raw t) row column) ∙ ap text_shown text) (shows_at bytes t s row column h within);
    }

pub rows_shown : (bytes : List ℕ) (t : Table) → IsSpelledBy bytes t → (row : ℕ) (d : Row) → row < length t.rows.items → {A E : Type 0} (f : A → List (List ℕ)) (r : Result A E) (texts : List (List ℕ)) → IfOk r (λ a. f a ≡ texts) → texts ≡ map (map unescaped) (raw_row (get_or t.rows.items row d)) → IfOk r (λ a. ShowsRow t row (f a))
rows_shown bytes t s row d h f (Ok a) texts is are = shows_row bytes t s row d (f a) h (is ∙ are)
rows_shown bytes t s row d h f (Err e) texts is are = tt
