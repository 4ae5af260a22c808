-- Parts joined by tabs, as the writer adds them one by one.
use Rattle.std.proofs.Common.{◌≡◌, ℕ, zero, suc, ◌+◌, ◌<◌, ◌≤◌, List, [], ◌∷◌, ◌++◌, length, map, drop, get_or, eqb, Bool, true, false, not, ◌||◌, ◌⊎◌, cond, take, nat_cmp, inl, inr, Some, refl, sym, ap, ◌∙◌, arith, append_assoc, append-nil, Bor}
use Rattle.std.specs.List.{join_with_byte, list_any}
use Rattle.std.specs.BTreeSet.{BTreeSet, contains_by, UpdatesBy}
use Rattle.std.specs.Cmp.Lexicographic.{slice_cmp}
use Rattle.std.specs.Str.{bytes_eq}
use Rattle.std.proofs.lemmas.List.{drop_more, drop_all, map_more, length-map, get_or-map}
use Rattle.std.proofs.lemmas.List.Folds.{list_any-append}
use Rattle.std.proofs.lemmas.Map.Text.{is_eq-slice_cmp}
use Rattle.std.proofs.lemmas.Slice.Eq.{bytes_eq-Decides}
use Rattle.std.proofs.lemmas.Bool.{cases_Bool}
use Rattle.std.proofs.lemmas.Bool.Decides.{nat_tests}
use Rattle.mi_idt.specs.Cells.{Cell, Nothing, ColumnValue, key_of}
use Rattle.mi_idt.specs.declared.table.Column.{Column}
use Rattle.mi_idt.specs.Means.{column_value}
use Rattle.mi_idt.specs.Rows.{cell_of, cells_of}
use Rattle.mi_idt.specs.Texts.{separator, tabbed, repeat_by}
use Rattle.mi_idt.specs.Written.{written_cell, written_row, written_definition}
use Rattle.mi_idt.proofs.NameLemmas.{bytes_eq-sym}

past : (place : ℕ) → eqb (place + 1) 0 ≡ false
past place = grind (arith, nat_tests)

pub tabbed_next : (out mid after part : List ℕ) (place : ℕ) (parts : List (List ℕ)) → mid ≡ out ++ separator place → after ≡ mid ++ part → out ++ tabbed place (part ∷ parts) ≡ after ++ tabbed (place + 1) parts
tabbed_next out mid after part place parts tab added =
    let rest : List ℕ = tabbed (place + 1) parts in
    sym (append_assoc out (separator place) (part ++ rest)) ∙ ap (λ (l : List ℕ). l ++ (part ++ rest)) (sym tab) ∙ sym (append_assoc mid part rest) ∙ ap (λ (l : List ℕ). l ++ rest) (sym added)

pub part_next : {A : Type 0} (f : A → List ℕ) (xs : List A) (i : ℕ) (d : A) (place : ℕ) (out mid after : List ℕ) → i < length xs → mid ≡ out ++ separator place → after ≡ mid ++ f (get_or xs i d) → out ++ tabbed place (map f (drop i xs)) ≡ after ++ tabbed (place + 1) (map f (drop (i + 1) xs))
part_next {A} f xs i d place out mid after in_range tab added =
    ap (λ (ys : List A). out ++ tabbed place (map f ys)) (drop_more xs i d in_range) ∙ tabbed_next out mid after (f (get_or xs i d)) place (map f (drop (i + 1) xs)) tab added

-- after all parts nothing is left
pub parts_end : {A : Type 0} (f : A → List ℕ) (xs : List A) (i place : ℕ) (out whole : List ℕ) → length xs ≤ i → out ++ tabbed place (map f (drop i xs)) ≡ whole → out ≡ whole
parts_end {A} f xs i place out whole end same = sym (append-nil out) ∙ ap (λ (ys : List A). out ++ tabbed place (map f ys)) (sym (drop_all i xs end)) ∙ same

pub joined_behind : (place : ℕ) (x : List ℕ) (xs : List (List ℕ)) → tabbed (place + 1) (x ∷ xs) ≡ 9 ∷ join_with_byte 9 (x ∷ xs)
joined_behind place x [] = rw (past place, append-nil x) refl
joined_behind place x (y ∷ ys) = rw (past place, joined_behind (place + 1) y ys) refl

pub tabbed_is : (parts : List (List ℕ)) → tabbed 0 parts ≡ join_with_byte 9 parts
tabbed_is [] = refl
tabbed_is (x ∷ []) = append-nil x
tabbed_is (x ∷ y ∷ ys) = ap (λ (l : List ℕ). x ++ l) (joined_behind 0 y ys)

-- ---- cells at a place

pub cells_at : (cs : List ColumnValue) (fs : List (List ℕ)) (i : ℕ) (c : ColumnValue) (f : List ℕ) → i < length cs → i < length fs → get_or (cells_of cs fs) i Nothing ≡ cell_of (get_or cs i c) (get_or fs i f)
cells_at [] fs i c f h k = absurd (omega arith)
cells_at (x ∷ cs) [] i c f h k = absurd (omega arith)
cells_at (x ∷ cs) (y ∷ fs) zero c f h k = refl
cells_at (x ∷ cs) (y ∷ fs) (suc i) c f h k = cells_at cs fs i c f (omega arith) (omega arith)

pub no_column_at : (cs : List ColumnValue) (fs : List (List ℕ)) (i : ℕ) → length cs ≤ i → get_or (cells_of cs fs) i Nothing ≡ Nothing
no_column_at [] fs i h = refl
no_column_at (x ∷ cs) [] i h = refl
no_column_at (x ∷ cs) (y ∷ fs) zero h = absurd (omega arith)
no_column_at (x ∷ cs) (y ∷ fs) (suc i) h = no_column_at cs fs i (omega arith)

pub no_field_at : (cs : List ColumnValue) (fs : List (List ℕ)) (i : ℕ) → length fs ≤ i → get_or (cells_of cs fs) i Nothing ≡ Nothing
no_field_at [] fs i h = refl
no_field_at (x ∷ cs) [] i h = refl
no_field_at (x ∷ cs) (y ∷ fs) zero h = absurd (omega arith)
no_field_at (x ∷ cs) (y ∷ fs) (suc i) h = no_field_at cs fs i (omega arith)

pub nothing_added : (out : List ℕ) (x : Cell) → x ≡ Nothing → out ≡ out ++ written_cell x
nothing_added out x e = rw e (sym (append-nil out))

-- the same of columns and fields in memory
pub out_of_cells : (cs : List Column) (fs : List (Bor (List ℕ))) (i : ℕ) → (length cs ≤ i) ⊎ (length fs ≤ i) → get_or (cells_of (map column_value cs) (map (λ b. b.now) fs)) i Nothing ≡ Nothing
out_of_cells cs fs i (inl h) = no_column_at (map column_value cs) (map (λ b. b.now) fs) i (omega (arith, length-map cs column_value))
out_of_cells cs fs i (inr h) = no_field_at (map column_value cs) (map (λ b. b.now) fs) i (omega (arith, length-map fs (λ (b : Bor (List ℕ)). b.now)))

pub raw_cell_at : (cs : List Column) (fs : List (Bor (List ℕ))) (i : ℕ) (c : Column) (f : Bor (List ℕ)) (bytes : List ℕ) → i < length cs → i < length fs → bytes ≡ (get_or fs i f).now → get_or (cells_of (map column_value cs) (map (λ b. b.now) fs)) i Nothing ≡ cell_of (column_value (get_or cs i c)) bytes
raw_cell_at cs fs i c f bytes h k is =
    cells_at (map column_value cs) (map (λ b. b.now) fs) i (column_value c) f.now (omega (arith, length-map cs column_value)) (omega (arith, length-map fs (λ (b : Bor (List ℕ)). b.now)))
    ∙ (λ n. cell_of (get_or-map column_value cs i c (column_value c) h n) ((get_or-map (λ (b : Bor (List ℕ)). b.now) fs i f f.now k ∙ sym is) n))

-- ---- the written key of a row

abbrev pub key_part : List Cell → ℕ → List ℕ
key_part cells k = written_cell (get_or cells k Nothing)

key_parts : (cells : List Cell) (keys : List ℕ) → map (key_part cells) keys ≡ map written_cell (key_of keys cells)
key_parts cells [] = refl
key_parts cells (k ∷ ks) = ap (λ (l : List (List ℕ)). key_part cells k ∷ l) (key_parts cells ks)

pub key_is : (cells : List Cell) (keys : List ℕ) (i : ℕ) (out : List ℕ) → length keys ≤ i → out ++ tabbed i (map (key_part cells) (drop i keys)) ≡ tabbed 0 (map (key_part cells) keys) → out ≡ written_row (key_of keys cells)
key_is cells keys i out end same = parts_end (key_part cells) keys i i out (tabbed 0 (map (key_part cells) keys)) end same ∙ ap (tabbed 0) (key_parts cells keys) ∙ tabbed_is (map written_cell (key_of keys cells))

-- ---- the first text that stands twice

pub repeat_next : {A X : Type 0} (same : X → X → Bool) (f : A → X) (xs : List A) (i : ℕ) (d : A) → i < length xs → list_any (same (f (get_or xs i d))) (map f (take i xs)) ≡ false
    → repeat_by same (map f (take i xs)) (i + 1) (map f (drop i xs)) ≡ repeat_by same (map f (take (i + 1) xs)) (i + 1 + 1) (map f (drop (i + 1) xs))
repeat_next {A} {X} same f xs i d in_range fresh =
    let x : X = f (get_or xs i d) in
    let step : repeat_by same (map f (take i xs)) (i + 1) (x ∷ map f (drop (i + 1) xs)) ≡ repeat_by same (map f (take i xs) ++ x ∷ []) (i + 1 + 1) (map f (drop (i + 1) xs)) = rw fresh refl in
    ap (λ (ys : List A). repeat_by same (map f (take i xs)) (i + 1) (map f ys)) (drop_more xs i d in_range) ∙ step
    ∙ ap (λ (ts : List X). repeat_by same ts (i + 1 + 1) (map f (drop (i + 1) xs))) (sym (map_more f xs i d in_range))

pub repeat_here : {A X : Type 0} (same : X → X → Bool) (f : A → X) (xs : List A) (i : ℕ) (d : A) → i < length xs → list_any (same (f (get_or xs i d))) (map f (take i xs)) ≡ true → repeat_by same (map f (take i xs)) (i + 1) (map f (drop i xs)) ≡ Some (i + 1)
repeat_here {A} same f xs i d in_range held = ap (λ (ys : List A). repeat_by same (map f (take i xs)) (i + 1) (map f ys)) (drop_more xs i d in_range) ∙ rw held refl

-- what an insertion into a set says of the key
pub absent : (a b : Bool) → a ≡ not b → a ≡ true → b ≡ false
absent a true e t = absurd cc
absent a false e t = refl

pub present : (a b : Bool) → a ≡ not b → a ≡ false → b ≡ true
present a true e t = refl
present a false e t = absurd cc

-- a key joins the set either way round
pub swapped : (a b c : Bool) → a ≡ b → cond a true c ≡ (c || (b || false))
swapped true true c e = grind arith
swapped false false c e = grind arith
swapped true false c e = absurd cc
swapped false true c e = absurd cc

-- the set after a text joined it
pub held_next : {A : Type 0} (f : A → List ℕ) (xs : List A) (i : ℕ) (d : A) (seen after : BTreeSet (List ℕ)) → i < length xs → ((q : List ℕ) → contains_by (slice_cmp nat_cmp q) seen ≡ list_any (bytes_eq q) (map f (take i xs)))
    → UpdatesBy (slice_cmp nat_cmp) (slice_cmp nat_cmp (f (get_or xs i d))) seen after true
    → (q : List ℕ) → contains_by (slice_cmp nat_cmp q) after ≡ list_any (bytes_eq q) (map f (take (i + 1) xs))
held_next f xs i d seen after in_range held updates q =
    let x : List ℕ = f (get_or xs i d) in
    let texts : List (List ℕ) = map f (take i xs) in
    let whole : list_any (bytes_eq q) (map f (take (i + 1) xs)) ≡ (list_any (bytes_eq q) texts || (bytes_eq q x || false)) = ap (list_any (bytes_eq q)) (map_more f xs i d in_range) ∙ list_any-append (bytes_eq q) texts (x ∷ []) in
    let now : contains_by (slice_cmp nat_cmp q) after ≡ cond (bytes_eq x q) true (list_any (bytes_eq q) texts) = updates.0 q ∙ ap (λ (b : Bool). cond b true (contains_by (slice_cmp nat_cmp q) seen)) (is_eq-slice_cmp x q) ∙ ap (λ (b : Bool). cond (bytes_eq x q) true b) (held q) in
    now ∙ swapped (bytes_eq x q) (bytes_eq q x) (list_any (bytes_eq q) texts) (either_way x q) ∙ sym whole
  where
    either_way : (x q : List ℕ) → bytes_eq x q ≡ bytes_eq q x
    either_way x q = elim (cases_Bool (bytes_eq x q)) [
      | inl t ↦ t ∙ sym ((bytes_eq-Decides q x).1 (sym ((bytes_eq-Decides x q).0 t)))
      | inr f ↦ f ∙ sym (bytes_eq-sym x q f)
    ]

-- ---- the definitions of the columns

abbrev pub definition_part : Column → List ℕ
definition_part c = written_definition (column_value c)

definition_parts : (cs : List Column) → map definition_part cs ≡ map written_definition (map column_value cs)
definition_parts [] = refl
definition_parts (c ∷ cs) = ap (λ (l : List (List ℕ)). definition_part c ∷ l) (definition_parts cs)

pub definitions_are : (cs : List Column) (i : ℕ) (before out : List ℕ) → length cs ≤ i → out ++ tabbed i (map definition_part (drop i cs)) ≡ before ++ tabbed 0 (map definition_part cs) → out ≡ before ++ tabbed 0 (map written_definition (map column_value cs))
definitions_are cs i before out end same = parts_end definition_part cs i i out (before ++ tabbed 0 (map definition_part cs)) end same ∙ ap (λ (l : List (List ℕ)). before ++ tabbed 0 l) (definition_parts cs)
