-- What the writer adds is the written form.
use Rattle.std.proofs.Common.{◌≡◌, ℕ, List, [], ◌∷◌, ◌++◌, map, Option, Some, None, refl, sym, ap, ◌∙◌, append_assoc}
use Rattle.std.specs.List.{join_with_byte}
use Rattle.std.specs.Fmt.{decimal}
use Rattle.mi_idt.specs.declared.table.Column.{Column}
use Rattle.mi_idt.specs.declared.table.Row.{Row}
use Rattle.mi_idt.specs.declared.table.Table.{Table}
use Rattle.mi_idt.specs.Cells.{names_of}
use Rattle.mi_idt.specs.Fronts.{row_text, page_text, front_texts}
use Rattle.mi_idt.specs.Means.{column_value, raw_row, meaning}
use Rattle.mi_idt.specs.Rows.{cells_of}
use Rattle.mi_idt.specs.Texts.{tabbed}
use Rattle.mi_idt.specs.Written.{written, written_lines, written_row, written_cell, written_definition, written_page, names_at, with_ends}
use Rattle.mi_idt.proofs.Joins.{tabbed_is}

names_twice : (cs : List Column) → map (λ (c : Column). c.name.now) cs ≡ names_of (map column_value cs)
names_twice [] = refl
names_twice (c ∷ cs) = ap (λ (l : List (List ℕ)). c.name.now ∷ l) (names_twice cs)

head_text : (page : Option ℕ) (name : List ℕ) (keys : List (List ℕ)) → page_text page ++ (name ++ tabbed 1 keys) ≡ join_with_byte 9 (written_page page ++ name ∷ keys)
head_text None name keys = tabbed_is (name ∷ keys)
head_text (Some n) name keys = append_assoc (decimal n) (9 ∷ []) (name ++ tabbed 1 keys) ∙ ap (λ (l : List ℕ). decimal n ++ 9 ∷ l) (tabbed_is (name ∷ keys))

row_texts : (cs : List Column) (rows : List Row) → map (row_text cs) rows ≡ map written_row (map (cells_of (map column_value cs)) (map raw_row rows))
row_texts cs [] = refl
row_texts cs (r ∷ rows) = (λ i. tabbed_is (map written_cell (cells_of (map column_value cs) (raw_row r))) i ∷ row_texts cs rows i)

pub ends-append : (xs ys : List (List ℕ)) → with_ends (xs ++ ys) ≡ with_ends xs ++ with_ends ys
ends-append [] ys = refl
ends-append (x ∷ xs) ys = ap (λ (l : List ℕ). (x ++ 13 ∷ 10 ∷ []) ++ l) (ends-append xs ys) ∙ sym (append_assoc (x ++ 13 ∷ 10 ∷ []) (with_ends xs) (with_ends ys))

all_lines : (t : Table) → front_texts t ++ map (row_text t.columns.items) t.rows.items ≡ written_lines (meaning t)
unfolding meaning
all_lines t = λ i.
    (tabbed_is (map (λ (c : Column). c.name.now) t.columns.items) ∙ ap (join_with_byte 9) (names_twice t.columns.items)) i
    ∷ tabbed_is (map written_definition (map column_value t.columns.items)) i
    ∷ head_text t.page t.name.now (names_at (map column_value t.columns.items) t.keys.items) i
    ∷ row_texts t.columns.items t.rows.items i

pub written_is : (t : Table) (out front : List ℕ) → front ≡ with_ends (front_texts t) → out ≡ front ++ with_ends (map (row_text t.columns.items) t.rows.items) → out ≡ written (meaning t)
unfolding written
written_is t out front first all = all ∙ ap (λ (l : List ℕ). l ++ with_ends (map (row_text t.columns.items) t.rows.items)) first ∙ sym (ends-append (front_texts t) (map (row_text t.columns.items) t.rows.items)) ∙ ap with_ends (all_lines t)
