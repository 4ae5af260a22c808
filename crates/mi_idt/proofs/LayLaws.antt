-- The fields of all rows, one row behind the other.
use Rattle.std.proofs.Common.{◌≡◌, ℕ, zero, suc, ◌+◌, ◌*◌, ◌<◌, ◌≤◌, List, [], ◌∷◌, ◌++◌, length, map, take, drop, get_or, refl, sym, ap, ◌∙◌, arith, append_assoc, append-nil, Bor}
use Rattle.std.specs.List.{All, flat_map}
use Rattle.std.proofs.Math.Nat.{zero-mul, suc-mul}
use Rattle.std.proofs.lemmas.List.{length-map, length-append, take-map, drop-map, take_at, drop_at}
use Rattle.std.proofs.lemmas.List.Concat.{flat_map-append}
use Rattle.std.proofs.lemmas.List.Elements.{All-head, All-tail}
use Rattle.mi_idt.specs.declared.table.Column.{Column}
use Rattle.mi_idt.specs.declared.table.Row.{Row}
use Rattle.mi_idt.specs.Means.{column_value, raw_row, AreLaid}
use Rattle.mi_idt.specs.RowKey.{row_cells, IsSpelledRow}
use Rattle.mi_idt.proofs.Basics.{shown}
use Rattle.mi_idt.proofs.FieldLaws.{are_fields}

-- pieces of one length: what stands before a piece and behind it
pub record Split {X A : Type 0} (f : X → List A) (xs : List X) (w i : ℕ) (d : X) : Type 0 where
  pub front : List A
  pub back : List A
  pub whole : flat_map f xs ≡ front ++ (f (get_or xs i d) ++ back)
  pub before : length front ≡ i * w

split : {X A : Type 0} (f : X → List A) (xs : List X) (w i : ℕ) (d : X) → All (λ x. length (f x) ≡ w) xs → i < length xs → Split f xs w i d
split f [] w i d all h = absurd (omega arith)
split f (x ∷ xs) w zero d all h = record { front = []; back = flat_map f xs; whole = refl; before = sym (zero-mul w) }
split f (x ∷ xs) w (suc i) d all h =
    let rest = split f xs w i d (All-tail (λ x. length (f x) ≡ w) x xs all) (omega arith) in
    let here : length (f x) ≡ w = All-head (λ x. length (f x) ≡ w) x xs all in
    record {
      front = f x ++ rest.front;
      back = rest.back;
      whole = ap (λ l. f x ++ l) rest.whole ∙ sym (append_assoc (f x) rest.front (f (get_or xs i d) ++ rest.back));
      before = length-append (f x) rest.front ∙ omega (arith, here, rest.before, suc-mul i w);
    }

-- the fields of a spelled row are as many as the columns
pub row_wide : (columns : List Column) (r : Row) → IsSpelledRow columns r → length (raw_row r) ≡ length columns
row_wide columns r s = (are_fields 0 0 (map column_value columns) (raw_row r) (row_cells columns r) s).2 ∙ length-map columns column_value

pub wide : (columns : List Column) (rows : List Row) → All (IsSpelledRow columns) rows → All (λ r. length (raw_row r) ≡ length columns) rows
wide columns rows all = λ k d h. row_wide columns (get_or rows k d) (all k d h)

module _ (columns : List Column) (rows : List Row) (fields : List (Bor (List ℕ))) (spelled : All (IsSpelledRow columns) rows) (laid : AreLaid rows fields) where
  pub row_within : (i : ℕ) (d : Row) → i < length rows → i * length columns + length columns ≤ length fields
  row_within i d h =
      let s = split raw_row rows (length columns) i d (wide columns rows spelled) h in
      let here : length (raw_row (get_or rows i d)) ≡ length columns = wide columns rows spelled i d h in
      let all : length (shown fields) ≡ length s.front + (length (raw_row (get_or rows i d)) + length s.back) = ap length (laid ∙ s.whole) ∙ length-append s.front (raw_row (get_or rows i d) ++ s.back) ∙ ap (λ (n : ℕ). length s.front + n) (length-append (raw_row (get_or rows i d)) s.back) in
      omega (arith, all, here, s.before, length-map fields (λ (b : Bor (List ℕ)). b.now))

  pub row_there : (i : ℕ) (d : Row) → i < length rows → shown (take (length columns) (drop (i * length columns) fields)) ≡ raw_row (get_or rows i d)
  row_there i d h =
      let s = split raw_row rows (length columns) i d (wide columns rows spelled) h in
      let row : List (List ℕ) = raw_row (get_or rows i d) in
      sym (take-map (λ (b : Bor (List ℕ)). b.now) (length columns) (drop (i * length columns) fields)) ∙ ap (take (length columns)) (sym (drop-map (λ (b : Bor (List ℕ)). b.now) (i * length columns) fields))
      ∙ ap (λ (l : List (List ℕ)). take (length columns) (drop (i * length columns) l)) (laid ∙ s.whole)
      ∙ ap (take (length columns)) (drop_at s.front (row ++ s.back) (i * length columns) s.before)
      ∙ take_at row s.back (length columns) (wide columns rows spelled i d h)

-- a row for where there is none
abbrev pub no_row : Row
no_row = record { line = record { ref_ptr = (0, 0); now = [] } }

-- one row more
pub laid_more : (rows : List Row) (fields : List (List ℕ)) (r : Row) → fields ≡ flat_map raw_row rows → fields ++ raw_row r ≡ flat_map raw_row (rows ++ r ∷ [])
laid_more rows fields r laid = ap (λ (l : List (List ℕ)). l ++ raw_row r) laid ∙ sym (flat_map-append raw_row rows (r ∷ []) ∙ ap (λ (l : List (List ℕ)). flat_map raw_row rows ++ l) (append-nil (raw_row r)))
