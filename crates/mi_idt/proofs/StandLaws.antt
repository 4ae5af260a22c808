-- Fields that stand as they are written.
use Rattle.std.proofs.Common.{◌≡◌, ◌≢◌, ℕ, zero, suc, ◌+◌, ◌-◌, ◌*◌, ◌^◌, ◌<◌, eqb, ltb, Bool, true, false, not, cond, ◌||◌, List, [], ◌∷◌, ◌++◌, length, map, take, get_or, ℤ, pos, neg_ℤ, refl, sym, ap, subst, ◌∙◌, arith, rules, inl, inr, Bor}
use Rattle.std.specs.List.{list_all}
use Rattle.std.specs.Fmt.{decimal, signed_decimal}
use Rattle.std.proofs.lemmas.Bool.{cases_Bool, eqb-true}
use Rattle.std.proofs.lemmas.Bool.Decides.{nat_tests}
use Rattle.std.proofs.lemmas.Fmt.{decimal-digits_value}
use Rattle.std.proofs.lemmas.List.{take_more, map_more, length-map, get_or-map}
use Rattle.std.proofs.lemmas.Str.Parse.{IsNumeralModel, numerals_by_fold}
use Rattle.mi_idt.specs.declared.table.Column.{Column}
use Rattle.mi_idt.specs.Cells.{Cell, Nothing, Text, Number, ColumnValue}
use Rattle.mi_idt.specs.Columns.{is_int, limit_of}
use Rattle.mi_idt.specs.Fields.{unescaped, is_digit, number_on}
use Rattle.mi_idt.specs.Means.{column_value}
use Rattle.mi_idt.specs.Rows.{cell_of, cells_of}
use Rattle.mi_idt.specs.Spells.{IsNumeral, SpellsInteger, SpellsField, SpellsFields}
use Rattle.mi_idt.specs.Stands.{begins_with_zero, integer_stands, text_stands}
use Rattle.mi_idt.specs.Written.{escaped, written_cell}
use Rattle.mi_idt.proofs.Basics.{and_true, cons_not, shown}
use Rattle.mi_idt.proofs.FieldLaws.{is_field, limit_small}
use Rattle.mi_idt.proofs.Joins.{raw_cell_at}
use Rattle.mi_idt.proofs.Numbers.{number_on-le, digit_no_minus}
use Rattle.mi_idt.proofs.Spelled.{spelled_at}

-- ---- integers

own : IsNumeralModel (λ ds. list_all is_digit ds ≡ true) (number_on 0)
own = numerals_by_fold _ (search rules) number_on (search rules)

digits_written : (d : ℕ) (ds : List ℕ) (n : ℕ) → IsNumeral (d ∷ ds) n → n < 2 ^ 64 → (d ≡ 48 → length (d ∷ ds) ≡ 1) → decimal n ≡ d ∷ ds
digits_written d ds n h small lone =
    let some : 0 < length (d ∷ ds) = omega arith in
    let fits : number_on 0 (d ∷ ds) < 2 ^ 64 = subst (λ (m : ℕ). m < 2 ^ 64) h.2 small in
    ap decimal h.2 ∙ decimal-digits_value own (d ∷ ds) h.1 some lone fits

lone_zero : (d : ℕ) (ds : List ℕ) → (not (eqb d 48) || eqb (length (d ∷ ds)) 1) ≡ true → d ≡ 48 → length (d ∷ ds) ≡ 1
lone_zero d ds e is = elim (cases_Bool (eqb (length (d ∷ ds)) 1)) [
  | inl t ↦ eqb-true _ _ t
  | inr f ↦
      let zero : eqb d 48 ≡ true = grind (arith, nat_tests) in
      let no : (not (eqb d 48) || eqb (length (d ∷ ds)) 1) ≡ false = rw (zero, f) refl in
      absurd cc
]

-- digits without a zero at the front spell more than 0
some_number : (d : ℕ) (ds : List ℕ) (n : ℕ) → IsNumeral (d ∷ ds) n → d ≢ 48 → 0 < n
some_number d ds n h other =
    let p = and_true (is_digit d) (list_all is_digit ds) h.1 in
    let large : 48 < d = grind (arith, nat_tests) in
    let more = number_on-le (0 * 10 + (d - 48)) ds in
    omega (arith, h.2)

negative_stands : (ds : List ℕ) (n : ℕ) (z : ℤ) → IsNumeral ds n → n < 2 ^ 64 → z ≡ neg_ℤ (pos n) → not (begins_with_zero ds) ≡ true → signed_decimal z ≡ 45 ∷ ds
negative_stands [] n z h small is e = absurd (h.0 refl)
negative_stands (d ∷ ds) zero z h small is e =
    let other : d ≢ 48 = λ zero. let t : eqb d 48 ≡ true = grind (arith, nat_tests) in let no : not (eqb d 48) ≡ false = rw t refl in absurd cc in
    absurd (omega (arith, some_number d ds 0 h other))
negative_stands (d ∷ ds) (suc m) z h small is e =
    let lone : d ≡ 48 → length (d ∷ ds) ≡ 1 = λ zero. let t : eqb d 48 ≡ true = grind (arith, nat_tests) in let no : not (eqb d 48) ≡ false = rw t refl in absurd cc in
    ap signed_decimal is ∙ ap (λ (l : List ℕ). 45 ∷ l) (digits_written d ds (suc m) h small lone)

integer_written : (limit : ℕ) (field : List ℕ) (z : ℤ) → limit < 2 ^ 32 → SpellsInteger limit field z → integer_stands field ≡ true → signed_decimal z ≡ field
integer_written limit [] z small (inl h) e = absurd (h.1.0 refl)
integer_written limit [] z small (inr h) e = let no = h.2 in absurd cc
integer_written limit (b ∷ bs) z small (inl h) e =
    let first = and_true (is_digit b) (list_all is_digit bs) h.1.1 in
    let plain : (not (eqb b 48) || eqb (length (b ∷ bs)) 1) ≡ true = sym (ap (λ (t : Bool). cond t (not (begins_with_zero bs)) (not (eqb b 48) || eqb (length (b ∷ bs)) 1)) (digit_no_minus b first.0)) ∙ e in
    ap signed_decimal h.3 ∙ digits_written b bs h.0 h.1 (omega (arith, h.2)) (lone_zero b bs plain)
integer_written limit (b ∷ bs) z small (inr h) e =
    let front : b ≡ 45 = cc in
    let rest : bs ≡ h.0 = cc in
    let minus : eqb b 45 ≡ true = grind (arith, nat_tests) in
    let plain : not (begins_with_zero bs) ≡ true = sym (ap (λ (t : Bool). cond t (not (begins_with_zero bs)) (not (eqb b 48) || eqb (length (b ∷ bs)) 1)) minus) ∙ e in
    negative_stands h.0 h.1 z h.3 (omega (arith, h.4)) h.5 (ap (λ (l : List ℕ). not (begins_with_zero l)) (sym rest) ∙ plain) ∙ sym h.2

-- ---- texts

byte_written : (b : ℕ) → ltb 13 b ≡ true → escaped (unescaped b) ≡ b
byte_written b e = grind (arith, nat_tests)

text_written : (bs : List ℕ) → text_stands bs ≡ true → map escaped (map unescaped bs) ≡ bs
text_written [] e = refl
text_written (b ∷ bs) e = let p = and_true (ltb 13 b) (text_stands bs) e in (λ i. byte_written b p.0 i ∷ text_written bs p.1 i)

-- ---- fields of a column

pub integer_field : (c : ColumnValue) (field : List ℕ) (x : Cell) → is_int c.letter ≡ true → integer_stands field ≡ true → SpellsField c field x → written_cell (cell_of c field) ≡ field
integer_field c [] x int e s = refl
integer_field c (b ∷ bs) Nothing int e s = absurd (cons_not b bs s.0)
integer_field c (b ∷ bs) (Text t) int e s = let no = s.1 in absurd cc
integer_field c (b ∷ bs) (Number z) int e s = ap written_cell (sym (is_field c 0 0 (b ∷ bs) (Number z) s).1) ∙ integer_written (limit_of c.width) (b ∷ bs) z (limit_small c.width) s.1 e

pub text_field : (c : ColumnValue) (field : List ℕ) → is_int c.letter ≡ false → text_stands field ≡ true → written_cell (cell_of c field) ≡ field
text_field c [] other e = refl
text_field c (b ∷ bs) other e = let cell : cell_of c (b ∷ bs) ≡ Text (map unescaped (b ∷ bs)) = rw other refl in ap written_cell cell ∙ text_written (b ∷ bs) e

-- ---- the first fields of a row

cells_within : (cs : List ColumnValue) (fs : List (List ℕ)) (i : ℕ) → i < length cs → i < length fs → i < length (cells_of cs fs)
cells_within [] fs i h k = absurd (omega arith)
cells_within (c ∷ cs) [] i h k = absurd (omega arith)
cells_within (c ∷ cs) (f ∷ fs) zero h k = omega arith
cells_within (c ∷ cs) (f ∷ fs) (suc i) h k = let r = cells_within cs fs i (omega arith) (omega arith) in omega arith

pub front_more : (cs : List Column) (fs : List (Bor (List ℕ))) (i : ℕ) (c : Column) (f : Bor (List ℕ)) (bytes : List ℕ) → i < length cs → i < length fs → bytes ≡ (get_or fs i f).now
    → written_cell (cell_of (column_value (get_or cs i c)) bytes) ≡ bytes
    → take i (shown fs) ≡ map written_cell (take i (cells_of (map column_value cs) (shown fs)))
    → take (i + 1) (shown fs) ≡ map written_cell (take (i + 1) (cells_of (map column_value cs) (shown fs)))
front_more cs fs i c f bytes h k is stands same =
    let xs : List Cell = cells_of (map column_value cs) (shown fs) in
    let within : i < length (shown fs) = omega (arith, length-map fs (λ (b : Bor (List ℕ)). b.now)) in
    let there : i < length xs = cells_within (map column_value cs) (shown fs) i (omega (arith, length-map cs column_value)) within in
    let here : get_or (shown fs) i [] ≡ written_cell (get_or xs i Nothing) = get_or-map (λ (b : Bor (List ℕ)). b.now) fs i f [] k ∙ sym is ∙ sym stands ∙ ap written_cell (sym (raw_cell_at cs fs i c f bytes h k is)) in
    take_more (shown fs) i [] within ∙ (λ n. same n ++ here n ∷ []) ∙ sym (map_more written_cell xs i Nothing there)

pub spelled_here : (cs : List Column) (fs : List (Bor (List ℕ))) (xs : List Cell) (i : ℕ) (c : Column) (f : Bor (List ℕ)) (bytes : List ℕ) → i < length cs → i < length fs → bytes ≡ (get_or fs i f).now
    → SpellsFields (map column_value cs) (shown fs) xs → SpellsField (column_value (get_or cs i c)) bytes (get_or xs i Nothing)
spelled_here cs fs xs i c f bytes h k is s =
    let x : Cell = get_or xs i Nothing in
    let column : get_or (map column_value cs) i (column_value c) ≡ column_value (get_or cs i c) = get_or-map column_value cs i c (column_value c) h in
    let field : get_or (shown fs) i [] ≡ bytes = get_or-map (λ (b : Bor (List ℕ)). b.now) fs i f [] k ∙ sym is in
    subst (λ (b : List ℕ). SpellsField (column_value (get_or cs i c)) b x) field (subst (λ (v : ColumnValue). SpellsField v (get_or (shown fs) i []) x) column (spelled_at (map column_value cs) (shown fs) xs i (column_value c) s (omega (arith, length-map cs column_value))))
