-- What the top of the reader needs.
use Rattle.std.proofs.Common.{◌≡◌, ℕ, ◌+◌, ◌-◌, ◌<◌, ◌≤◌, eqb, ltb, Bool, true, false, cond, List, [], ◌∷◌, length, map, take, drop, get_or, Option, Some, None, option_map, Result, Ok, Err, refl, sym, ap, subst, ◌∙◌, arith, inl, inr, Bor}
use Rattle.std.specs.List.{All, AllZip, AllByRecursion, slice_split, count_by}
use Rattle.std.specs.Str.Lines.{lines, lines_of_parts}
use Rattle.std.proofs.lemmas.Bool.{cases_Bool, ltb-false, lt-ltb, le-ltb}
use Rattle.std.proofs.lemmas.List.{length-map, take_all}
use Rattle.std.proofs.lemmas.List.Elements.{All-from_recursion}
use Rattle.std.proofs.lemmas.List.Splits.{length-slice_split}
use Rattle.mi_text.specs.declared.answers.IdtFault.{IdtFault}
use Rattle.mi_text.specs.declared.answers.IdtFault.TheVariants.{TooLarge, TooFewLines, TwoKeys}
use Rattle.mi_idt.specs.declared.table.Column.{Column}
use Rattle.mi_idt.specs.declared.table.Row.{Row}
use Rattle.mi_idt.specs.declared.table.Table.{Table}
use Rattle.mi_idt.specs.declared.table.IdtError.{IdtError}
use Rattle.mi_idt.specs.declared.table.IdtError.TheVariants as error
use Rattle.mi_idt.specs.Cells.{ColumnValue}
use Rattle.mi_idt.specs.Columns.{◌or_else◌}
use Rattle.mi_idt.specs.Fault.{is_too_large, texts_fault, parts_fault, table_fault, lines_fault, idt_fault}
use Rattle.mi_idt.specs.Fields.{fields_of}
use Rattle.mi_idt.specs.Means.{column_value, raw_row, raw, meaning, IsRaw, IsSpelledBy}
use Rattle.mi_idt.specs.Raw.{raw_of_lines, raw_of, value_of}
use Rattle.mi_idt.specs.Reads.{ReadsTable}
use Rattle.mi_idt.specs.RowKey.{row_key, IsSpelledRow}
use Rattle.mi_idt.specs.Rows.{cells_of, rows_fault, repeat_fault, keys_of}
use Rattle.mi_idt.specs.Spells.{Spells, SpellsRow, SpellsFields}
use Rattle.mi_idt.specs.Steps.{ReadsPart}
use Rattle.mi_idt.specs.Texts.{repeat_of}
use Rattle.mi_idt.specs.Written.{written_row}
use Rattle.mi_idt.proofs.Basics.{shown}
use Rattle.mi_idt.proofs.Faults.{or-past}
use Rattle.mi_idt.proofs.FieldLaws.{cells_in, rows_are}
use Rattle.mi_idt.proofs.KeyLaws.{AreKeys, repeats_are}
use Rattle.mi_idt.proofs.TableLaws.{bytes_spell}

-- ---- repeated keys

keys_known : (page : Option ℕ) (cs : List ColumnValue) (keys : List ℕ) (lines : List (List ℕ)) → AllZip (SpellsRow page cs) lines (map (cells_in cs) lines) → AreKeys cs keys (keys_of cs keys (map fields_of lines))
keys_known page cs keys [] s = tt
keys_known page cs keys (line ∷ lines) s = ((fields_of line, cells_in cs line, s.0.1, refl), keys_known page cs keys lines s.1)

key_rows : (columns : List Column) (keys : List ℕ) (rows : List Row) → map written_row (keys_of (map column_value columns) keys (map raw_row rows)) ≡ map (row_key columns keys) rows
key_rows columns keys [] = refl
key_rows columns keys (r ∷ rows) = ap (λ (l : List (List ℕ)). row_key columns keys r ∷ l) (key_rows columns keys rows)

-- rows that were read without a fault spell their cells
spelled_rows : (page : Option ℕ) (columns : List Column) (rows : List Row) (lines : List (List ℕ)) → map raw_row rows ≡ map fields_of lines → AllZip (SpellsRow page (map column_value columns)) lines (map (cells_in (map column_value columns)) lines) → AllByRecursion (IsSpelledRow columns) rows
spelled_rows page columns [] lines same s = tt
spelled_rows page columns (r ∷ rows) [] same s = absurd cc
spelled_rows page columns (r ∷ rows) (line ∷ lines) same s =
    let here : raw_row r ≡ fields_of line = cc in
    let rest : map raw_row rows ≡ map fields_of lines = cc in
    (subst (λ (fs : List (List ℕ)). SpellsFields (map column_value columns) fs (cells_of (map column_value columns) fs)) (sym here) s.0.1, spelled_rows page columns rows lines rest s.1)

pub rows_spelled : (page : Option ℕ) (columns : List Column) (rows : List Row) (lines : List (List ℕ)) → map raw_row rows ≡ map fields_of lines → rows_fault page (map column_value columns) 1 lines ≡ None → All (IsSpelledRow columns) rows
rows_spelled page columns rows lines read none = All-from_recursion (IsSpelledRow columns) rows (spelled_rows page columns rows lines read (rows_are page (map column_value columns) 1 lines none))

pub body_repeat : (page : Option ℕ) (columns : List Column) (keys : List ℕ) (rows : List Row) (lines : List (List ℕ)) → map raw_row rows ≡ map fields_of lines → rows_fault page (map column_value columns) 1 lines ≡ None
    → repeat_fault [] 1 (keys_of (map column_value columns) keys (map fields_of lines)) ≡ option_map TwoKeys (repeat_of [] 1 (map (row_key columns keys) rows))
body_repeat page columns keys rows lines read none =
    let cs : List ColumnValue = map column_value columns in
    repeats_are cs keys [] (keys_of cs keys (map fields_of lines)) 1 tt (keys_known page cs keys lines (rows_are page cs 1 lines none))
    ∙ ap (λ (rs : List (List (List ℕ))). option_map TwoKeys (repeat_of [] 1 (map written_row (keys_of cs keys rs)))) (sym read)
    ∙ ap (λ (ts : List (List ℕ)). option_map TwoKeys (repeat_of [] 1 ts)) (key_rows columns keys rows)

-- ---- the lines

pub large : (ls : List (List ℕ)) → is_too_large ls ≡ true → lines_fault ls ≡ Some TooLarge
unfolding lines_fault
large ls e = ap (λ (b : Bool). cond b (Some TooLarge) None or_else table_fault ls) e

few_by : (ls : List (List ℕ)) → length ls < 3 → is_too_large ls ≡ false → lines_fault ls ≡ Some TooFewLines
unfolding lines_fault
few_by [] short e = ap (λ (b : Bool). cond b (Some TooLarge) None or_else table_fault []) e
few_by (x ∷ []) short e = ap (λ (b : Bool). cond b (Some TooLarge) None or_else table_fault (x ∷ [])) e
few_by (x ∷ y ∷ []) short e = ap (λ (b : Bool). cond b (Some TooLarge) None or_else table_fault (x ∷ y ∷ [])) e
few_by (x ∷ y ∷ z ∷ ls) short e = absurd (omega arith)

pub few : (ls : List (Bor (List ℕ))) → length ls < 3 → is_too_large (shown ls) ≡ false → lines_fault (shown ls) ≡ Some TooFewLines
few ls short e = few_by (shown ls) (omega (arith, length-map ls (λ (b : Bor (List ℕ)). b.now))) e

-- the lines from the fourth on, as a pattern on the slice has them
abbrev pub rest : List (Bor (List ℕ)) → List (Bor (List ℕ))
rest ls = take (length ls - 3) (drop 3 ls)

pub three_and_more : (ls : List (Bor (List ℕ))) (d : Bor (List ℕ)) → 3 ≤ length ls → shown ls ≡ (get_or ls 0 d).now ∷ (get_or ls 1 d).now ∷ (get_or ls 2 d).now ∷ shown (rest ls)
three_and_more [] d h = absurd (omega arith)
three_and_more (x ∷ []) d h = absurd (omega arith)
three_and_more (x ∷ y ∷ []) d h = absurd (omega arith)
three_and_more (x ∷ y ∷ z ∷ ls) d h =
    let whole : take (length (x ∷ y ∷ z ∷ ls) - 3) ls ≡ ls = take_all (length (x ∷ y ∷ z ∷ ls) - 3) ls (omega arith) in
    ap (λ (l : List (Bor (List ℕ))). x.now ∷ y.now ∷ z.now ∷ shown l) (sym whole)

past_size : (names definitions head : List ℕ) (rows : List (List ℕ)) → is_too_large (names ∷ definitions ∷ head ∷ rows) ≡ false → lines_fault (names ∷ definitions ∷ head ∷ rows) ≡ texts_fault names definitions head or_else parts_fault names definitions head rows
unfolding lines_fault
past_size names definitions head rows e = ap (λ (b : Bool). cond b (Some TooLarge) None or_else table_fault (names ∷ definitions ∷ head ∷ rows)) e

pub no_texts : (ls : List (Bor (List ℕ))) (d : Bor (List ℕ)) (f : IdtFault) → 3 ≤ length ls → is_too_large (shown ls) ≡ false → texts_fault (get_or ls 0 d).now (get_or ls 1 d).now (get_or ls 2 d).now ≡ Some f → lines_fault (shown ls) ≡ Some f
no_texts ls d f h e fault =
    let is = three_and_more ls d h in
    ap lines_fault is ∙ past_size _ _ _ _ (ap is_too_large (sym is) ∙ e) ∙ rw fault refl

pub parts_only : (ls : List (Bor (List ℕ))) (d : Bor (List ℕ)) (names definitions head : List ℕ) → 3 ≤ length ls → is_too_large (shown ls) ≡ false → texts_fault (get_or ls 0 d).now (get_or ls 1 d).now (get_or ls 2 d).now ≡ None
    → names ≡ (get_or ls 0 d).now → definitions ≡ (get_or ls 1 d).now → head ≡ (get_or ls 2 d).now → parts_fault names definitions head (shown (rest ls)) ≡ lines_fault (shown ls)
parts_only ls d names definitions head h e none n p q =
    let is = three_and_more ls d h in
    (λ i. parts_fault (n i) (p i) (q i) (shown (rest ls)))
    ∙ sym (ap lines_fault is ∙ past_size _ _ _ _ (ap is_too_large (sym is) ∙ e) ∙ or-past _ _ none)

pub raw_only : (ls : List (Bor (List ℕ))) (d : Bor (List ℕ)) (names definitions head : List ℕ) → 3 ≤ length ls → names ≡ (get_or ls 0 d).now → definitions ≡ (get_or ls 1 d).now → head ≡ (get_or ls 2 d).now → raw_of_lines (names ∷ definitions ∷ head ∷ shown (rest ls)) ≡ raw_of_lines (shown ls)
raw_only ls d names definitions head h n p q = (λ i. raw_of_lines (n i ∷ p i ∷ q i ∷ shown (rest ls))) ∙ ap raw_of_lines (sym (three_and_more ls d h))

size_false : (n : ℕ) (names definitions head : List ℕ) (rows : List (List ℕ)) → is_too_large (names ∷ definitions ∷ head ∷ rows) ≡ false → (length rows ≤ 65535) × (length (fields_of names) ≤ 32)
size_false n names definitions head rows e = elim (cases_Bool (ltb (65535 + 3) (length (names ∷ definitions ∷ head ∷ rows)))) [
  | inl t ↦ let yes_large : is_too_large (names ∷ definitions ∷ head ∷ rows) ≡ true = rw t refl in absurd cc
  | inr f ↦
      let g : ltb 32 (length (fields_of names)) ≡ false = sym (ap (λ (b : Bool). cond b true (ltb 32 (length (fields_of names)))) f) ∙ e in
      (count rows (ltb-false _ _ f), ltb-false _ _ g)
]
  where
    count : (rows : List (List ℕ)) → length (names ∷ definitions ∷ head ∷ rows) ≤ 65535 + 3 → length rows ≤ 65535
    count rows h = omega arith

pub sizes : (ls : List (Bor (List ℕ))) (d : Bor (List ℕ)) → 3 ≤ length ls → is_too_large (shown ls) ≡ false → (length (rest ls) ≤ 65535) × (length (fields_of (get_or ls 0 d).now) ≤ 32)
sizes ls d h e =
    let is = three_and_more ls d h in
    let s = size_false 0 (get_or ls 0 d).now (get_or ls 1 d).now (get_or ls 2 d).now (shown (rest ls)) (ap is_too_large (sym is) ∙ e) in
    (omega (arith, s.0, length-map (rest ls) (λ (b : Bor (List ℕ)). b.now)), s.1)

-- ---- the bytes

lines_no_fewer : (parts : List (List ℕ)) → length parts ≤ length (lines_of_parts parts) + 1
lines_no_fewer [] = omega arith
lines_no_fewer (x ∷ []) = omega arith
lines_no_fewer (x ∷ y ∷ more) = let rest = lines_no_fewer (y ∷ more) in omega arith

-- more ends than lines may be are too many lines
pub many_ends : (bytes : List ℕ) → ltb 16777216 (length bytes) ≡ false → 65538 < count_by (λ b. eqb b 10) bytes → idt_fault bytes ≡ Some TooLarge
unfolding idt_fault
many_ends bytes small many =
    let long : 65538 < length (lines bytes) = omega (arith, lines_no_fewer (slice_split (λ b. eqb b 10) bytes), length-slice_split (λ b. eqb b 10) bytes) in
    let t : ltb (65535 + 3) (length (lines bytes)) ≡ true = lt-ltb _ _ long in
    let is_large : is_too_large (lines bytes) ≡ true = rw t refl in
    rw small (large (lines bytes) is_large)

pub many_bytes : (bytes : List ℕ) → 16777216 < length bytes → idt_fault bytes ≡ Some TooLarge
unfolding idt_fault
many_bytes bytes many = let t : ltb 16777216 (length bytes) ≡ true = lt-ltb _ _ many in rw t refl

by_lines : (bytes : List ℕ) → ltb 16777216 (length bytes) ≡ false → idt_fault bytes ≡ lines_fault (lines bytes)
unfolding idt_fault
by_lines bytes small = rw small refl

raw_by_lines : (bytes : List ℕ) → raw_of bytes ≡ raw_of_lines (lines bytes)
unfolding raw_of
raw_by_lines bytes = refl

meaning_is : (t : Table) → meaning t ≡ value_of (raw t)
unfolding meaning
meaning_is t = refl

spelled_by : (bytes : List ℕ) (t : Table) → idt_fault bytes ≡ None → IsRaw t (raw_of bytes) → IsSpelledBy bytes t
spelled_by bytes t none (stands, laid) = record { spells = subst (Spells bytes) (ap value_of (sym stands) ∙ sym (meaning_is t)) (bytes_spell bytes none); stands = stands; laid = laid }

pub reads_table : (r : Result Table IdtError) (bytes : List ℕ) (ls : List (List ℕ)) → length bytes ≤ 16777216 → ls ≡ lines bytes → ReadsPart r (lines_fault ls) (λ t. IsRaw t (raw_of_lines ls)) → ReadsTable r bytes
reads_table (Ok t) bytes ls small are h =
    let same = by_lines bytes (le-ltb _ _ small) in
    spelled_by bytes t (same ∙ ap lines_fault (sym are) ∙ h.0) (h.1.0 ∙ ap raw_of_lines are ∙ sym (raw_by_lines bytes), h.1.1)
reads_table (Err error.NoMemory) bytes ls small are h = tt
reads_table (Err (error.Fault f)) bytes ls small are h = by_lines bytes (le-ltb _ _ small) ∙ ap lines_fault (sym are) ∙ h
