-- Lines have no fault exactly where they spell a table, and then one table.
use Rattle.std.proofs.Common.{◌≡◌, ◌↔◌, ℕ, ◌+◌, ◌≤◌, ltb, Bool, false, cond, List, [], ◌∷◌, length, map, Option, Some, None, refl, sym, ap, subst, ◌∙◌, arith, inl, inr}
use Rattle.std.specs.List.{AllZip}
use Rattle.std.specs.Str.{IsUtf8, is_utf8}
use Rattle.std.specs.Str.Lines.{lines}
use Rattle.std.proofs.lemmas.Bool.{cases_Bool, ltb-false, le-ltb}
use Rattle.std.proofs.lemmas.Str.{IsUtf8-from_is_utf8, is_utf8-from_IsUtf8}
use Rattle.mi_text.specs.declared.answers.IdtFault.{IdtFault}
use Rattle.mi_text.specs.declared.answers.IdtFault.TheVariants.{TooLarge, NotUtf8}
use Rattle.mi_idt.specs.Cells.{Cell, ColumnValue, TableValue, key_of}
use Rattle.mi_idt.specs.Columns.{◌or_else◌, columns_fault, columns_of, names_fault, second_fault}
use Rattle.mi_idt.specs.Fault.{size_fault, text_fault, texts_fault, body_fault, parts_fault, table_fault, lines_fault, idt_fault}
use Rattle.mi_idt.specs.Fields.{fields_of}
use Rattle.mi_idt.specs.Head.{head_fault, page_of, after_page, keys_in, places_of}
use Rattle.mi_idt.specs.Raw.{raw_of_lines, raw_of, value_of}
use Rattle.mi_idt.specs.Rows.{cells_of, rows_fault, repeat_fault, keys_of}
use Rattle.mi_idt.specs.Spells.{SpellsLines, Spells, SpellsRow}
use Rattle.mi_idt.proofs.ColumnLaws.{names_named, named_names, columns_are, are_columns}
use Rattle.mi_idt.proofs.Faults.{or-none, or-past}
use Rattle.mi_idt.proofs.FieldLaws.{cells_in, rows_are, are_rows}
use Rattle.mi_idt.proofs.HeadLaws.{head_is, is_head}
use Rattle.mi_idt.proofs.KeyLaws.{keys_differ, differ_keys}

-- ---- texts and sizes

text_is : (number : ℕ) (line : List ℕ) → text_fault number line ≡ None → IsUtf8 line
text_is number line e = elim (cases_Bool (is_utf8 line)) [
  | inl t ↦ IsUtf8-from_is_utf8 line t
  | inr f ↦ let some : text_fault number line ≡ Some (NotUtf8 number) = rw f refl in absurd cc
]

is_text : (number : ℕ) (line : List ℕ) → IsUtf8 line → text_fault number line ≡ None
is_text number line h = rw (is_utf8-from_IsUtf8 line h) refl

texts_are : (names definitions head : List ℕ) → texts_fault names definitions head ≡ None → IsUtf8 names × IsUtf8 definitions × IsUtf8 head
texts_are names definitions head e =
    let p = or-none (text_fault 1 names) (text_fault 2 definitions or_else text_fault 3 head) e in
    let q = or-none (text_fault 2 definitions) (text_fault 3 head) p.1 in
    (text_is 1 names p.0, text_is 2 definitions q.0, text_is 3 head q.1)

are_texts : (names definitions head : List ℕ) → IsUtf8 names × IsUtf8 definitions × IsUtf8 head → texts_fault names definitions head ≡ None
are_texts names definitions head h =
    or-past (text_fault 1 names) _ (is_text 1 names h.0) ∙ or-past (text_fault 2 definitions) _ (is_text 2 definitions h.1) ∙ is_text 3 head h.2

size_is : (names definitions head : List ℕ) (rows : List (List ℕ)) → size_fault (names ∷ definitions ∷ head ∷ rows) ≡ None → (length rows ≤ 65535) × (length (fields_of names) ≤ 32)
size_is names definitions head rows e = elim (cases_Bool (ltb (65535 + 3) (length (names ∷ definitions ∷ head ∷ rows)))) [
  | inl t ↦ let some : size_fault (names ∷ definitions ∷ head ∷ rows) ≡ Some TooLarge = rw t refl in absurd cc
  | inr f ↦ elim (cases_Bool (ltb 32 (length (fields_of names)))) [
    | inl t ↦ let some : size_fault (names ∷ definitions ∷ head ∷ rows) ≡ Some TooLarge = rw (f, t) refl in absurd cc
    | inr g ↦ (few rows (ltb-false _ _ f), ltb-false _ _ g)
  ]
]
  where
    few : (rows : List (List ℕ)) → length (names ∷ definitions ∷ head ∷ rows) ≤ 65535 + 3 → length rows ≤ 65535
    few rows h = omega arith

is_size : (names definitions head : List ℕ) (rows : List (List ℕ)) → length rows ≤ 65535 → length (fields_of names) ≤ 32 → size_fault (names ∷ definitions ∷ head ∷ rows) ≡ None
is_size names definitions head rows h k =
    let f : ltb (65535 + 3) (length (names ∷ definitions ∷ head ∷ rows)) ≡ false = le-ltb _ _ (few rows h) in
    let g : ltb 32 (length (fields_of names)) ≡ false = le-ltb _ _ k in
    rw (f, g) refl
  where
    few : (rows : List (List ℕ)) → length rows ≤ 65535 → length (names ∷ definitions ∷ head ∷ rows) ≤ 65535 + 3
    few rows h = omega arith

-- ---- the lines

cells_twice : (cs : List ColumnValue) (rows : List (List ℕ)) → map (cells_of cs) (map fields_of rows) ≡ map (cells_in cs) rows
cells_twice cs [] = refl
cells_twice cs (r ∷ rows) = ap (λ (l : List (List Cell)). cells_in cs r ∷ l) (cells_twice cs rows)

keys_twice : (cs : List ColumnValue) (keys : List ℕ) (rows : List (List (List ℕ))) → keys_of cs keys rows ≡ map (key_of keys) (map (cells_of cs) rows)
keys_twice cs keys [] = refl
keys_twice cs keys (r ∷ rows) = ap (λ (l : List (List Cell)). key_of keys (cells_of cs r) ∷ l) (keys_twice cs keys rows)

pub lines_spell : (names definitions head : List ℕ) (rows : List (List ℕ)) → lines_fault (names ∷ definitions ∷ head ∷ rows) ≡ None → SpellsLines names definitions head rows (value_of (raw_of_lines (names ∷ definitions ∷ head ∷ rows)))
unfolding lines_fault parts_fault
lines_spell names definitions head rows e =
    let size = or-none (size_fault (names ∷ definitions ∷ head ∷ rows)) (table_fault (names ∷ definitions ∷ head ∷ rows)) e in
    let sizes = size_is names definitions head rows size.0 in
    let texts = or-none (texts_fault names definitions head) _ size.1 in
    let front = or-none (columns_fault names definitions) _ texts.1 in
    let columns = or-none (names_fault [] 1 (fields_of names)) (second_fault (fields_of names) (fields_of definitions)) front.0 in
    let line = or-none (head_fault (fields_of names) (fields_of head)) _ front.1 in
    let body = or-none (rows_fault (page_of (fields_of head)) (columns_of names definitions) 1 rows) _ line.1 in
    let named = names_named (fields_of names) columns.0 in
    let defined = columns_are (fields_of names) (fields_of definitions) columns.1 in
    let said = head_is (fields_of names) (fields_of head) line.0 in
    record {
      few_rows = sizes.0;
      few_columns = sizes.1;
      texts = texts_are names definitions head texts.0;
      named = sym defined.1;
      no_empty_name = named.0;
      names_apart = named.1;
      defined = defined.0;
      key_names = keys_in (after_page (fields_of head));
      headed = said.0;
      keyed = said.1;
      rows_are = subst (AllZip (SpellsRow (page_of (fields_of head)) (columns_of names definitions)) rows) (sym (cells_twice (columns_of names definitions) rows)) (rows_are (page_of (fields_of head)) (columns_of names definitions) 1 rows body.0);
      keys_apart = keys_differ _ (ap (repeat_fault [] 1) (sym (keys_twice (columns_of names definitions) (places_of (fields_of names) (keys_in (after_page (fields_of head)))) (map fields_of rows))) ∙ body.1);
    }

pub spelled_lines : (names definitions head : List ℕ) (rows : List (List ℕ)) (t : TableValue) → SpellsLines names definitions head rows t → (lines_fault (names ∷ definitions ∷ head ∷ rows) ≡ None) × (t ≡ value_of (raw_of_lines (names ∷ definitions ∷ head ∷ rows)))
unfolding lines_fault parts_fault
spelled_lines names definitions head rows t s =
    let columns = are_columns (fields_of names) (fields_of definitions) t.columns s.defined (sym s.named) in
    let said = is_head (fields_of names) (fields_of head) t.page t.name s.key_names t.keys s.names_apart s.headed s.keyed in
    let body = are_rows t.page t.columns 1 rows t.rows s.rows_are in
    let row_cells : t.rows ≡ map (cells_of t.columns) (map fields_of rows) = body.1 ∙ sym (cells_twice t.columns rows) in
    let is : t ≡ value_of (raw_of_lines (names ∷ definitions ∷ head ∷ rows)) = λ i. record {
      name = said.name_is i;
      page = said.page_is i;
      columns = columns.1 i;
      keys = said.places_are i;
      rows = (row_cells ∙ ap (λ (cs : List ColumnValue). map (cells_of cs) (map fields_of rows)) columns.1) i;
    } in
    let differ : repeat_fault [] 1 (keys_of t.columns t.keys (map fields_of rows)) ≡ None = ap (repeat_fault [] 1) (keys_twice t.columns t.keys (map fields_of rows) ∙ ap (map (key_of t.keys)) (sym row_cells)) ∙ differ_keys (map (key_of t.keys) t.rows) s.keys_apart in
    let last : body_fault t.page t.columns t.keys rows ≡ None = or-past (rows_fault t.page t.columns 1 rows) _ body.0 ∙ differ in
    let there : body_fault (page_of (fields_of head)) (columns_of names definitions) (places_of (fields_of names) (keys_in (after_page (fields_of head)))) rows ≡ None = sym (λ i. body_fault (said.page_is i) (columns.1 i) (said.places_are i) rows) ∙ last in
    let first : columns_fault names definitions ≡ None = or-past (names_fault [] 1 (fields_of names)) _ (named_names (fields_of names) (s.no_empty_name, s.names_apart)) ∙ columns.0 in
    let none : lines_fault (names ∷ definitions ∷ head ∷ rows) ≡ None =
    or-past (size_fault (names ∷ definitions ∷ head ∷ rows)) _ (is_size names definitions head rows s.few_rows s.few_columns)
    ∙ or-past (texts_fault names definitions head) _ (are_texts names definitions head s.texts)
    ∙ or-past (columns_fault names definitions) _ first
    ∙ or-past (head_fault (fields_of names) (fields_of head)) _ said.no_fault
    ∙ there in
    (none, is)

-- ---- the whole text

no_short : {f : IdtFault} {o : Option IdtFault} → o ≡ Some f → o ≡ None → ⊥
no_short e n = absurd cc

bytes_by : (bytes : List ℕ) (ls : List (List ℕ)) → length bytes ≤ 16777216 → lines bytes ≡ ls → lines_fault ls ≡ None → Spells bytes (value_of (raw_of_lines ls))
unfolding lines_fault
bytes_by bytes [] small is e = absurd cc
bytes_by bytes (x ∷ []) small is e = let o = or-none (size_fault (x ∷ [])) _ e in absurd cc
bytes_by bytes (x ∷ y ∷ []) small is e = let o = or-none (size_fault (x ∷ y ∷ [])) _ e in absurd cc
bytes_by bytes (names ∷ definitions ∷ head ∷ rows) small is e = record { small = small; names = names; definitions = definitions; head = head; rows = rows; lines_are = is; spelled = lines_spell names definitions head rows e }

pub bytes_spell : (bytes : List ℕ) → idt_fault bytes ≡ None → Spells bytes (value_of (raw_of bytes))
unfolding idt_fault raw_of
bytes_spell bytes e = elim (cases_Bool (ltb 16777216 (length bytes))) [
  | inl t ↦ let some : idt_fault bytes ≡ Some TooLarge = rw t refl in absurd cc
  | inr f ↦ bytes_by bytes (lines bytes) (ltb-false _ _ f) refl (sym (ap (λ (b : Bool). cond b (Some TooLarge) (lines_fault (lines bytes))) f) ∙ e)
]

pub spelled_bytes : (bytes : List ℕ) (t : TableValue) → Spells bytes t → (idt_fault bytes ≡ None) × (t ≡ value_of (raw_of bytes))
unfolding idt_fault raw_of
spelled_bytes bytes t s =
    let f : ltb 16777216 (length bytes) ≡ false = le-ltb _ _ s.small in
    let h = spelled_lines s.names s.definitions s.head s.rows t s.spelled in
    let is = s.lines_are in
    let none : lines_fault (lines bytes) ≡ None = ap lines_fault is ∙ h.0 in
    (ap (λ (b : Bool). cond b (Some TooLarge) (lines_fault (lines bytes))) f ∙ none, h.1 ∙ ap (λ (ls : List (List ℕ)). value_of (raw_of_lines ls)) (sym is))

-- no bytes spell two tables
pub one_table : (bytes : List ℕ) (t u : TableValue) → Spells bytes t → Spells bytes u → t ≡ u
one_table bytes t u s r = (spelled_bytes bytes t s).1 ∙ sym (spelled_bytes bytes u r).1

-- there is no fault exactly where they spell one
pub spells_exactly : (bytes : List ℕ) → (idt_fault bytes ≡ None) ↔ ((t : TableValue) × Spells bytes t)
spells_exactly bytes = ((λ e. (value_of (raw_of bytes), bytes_spell bytes e)), (λ s. (spelled_bytes bytes s.0 s.1).0))
