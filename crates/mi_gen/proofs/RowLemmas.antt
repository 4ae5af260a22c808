-- The rows of a table, from one number of a file on.
use Rattle.std.proofs.Common.{◌≡◌, ◌∙◌, ℕ, suc, ◌+◌, ◌-◌, ◌<◌, List, [], ◌∷◌, ◌++◌, Bool, true, false, cond, map, sym, ap, append_assoc, append-nil, arith}
use Rattle.std.specs.List.{range_with_len, filter}
use Rattle.mi_idt.specs.Written.{written_row, with_ends}
use Rattle.mi_idt.proofs.WriteLemmas.{ends-append}
use Rattle.mi_gen.specs.declared.numbered.NumberedTable.{NumberedTable}
use Rattle.mi_gen.specs.Tables.{has_row, row}

-- the rows that the files of these numbers bring, as they are written
abbrev pub written_for : NumberedTable → List ℕ → List ℕ
written_for t numbers = with_ends (map written_row (map (row t) (filter (has_row t) numbers)))

-- those from i on, below n
abbrev pub written_from : NumberedTable → ℕ → ℕ → List ℕ
written_from t i n = written_for t (range_with_len i (n - i))

next_range : (i n : ℕ) → i < n → range_with_len i (n - i) ≡ i ∷ range_with_len (i + 1) (n - (i + 1))
next_range i n within =
    let more : n - i ≡ suc (n - (i + 1)) = omega arith in
    ap (range_with_len i) more

abbrev chosen : NumberedTable → ℕ → List ℕ → Bool → List ℕ
chosen t i numbers has = with_ends (map written_row (map (row t) (cond has (i ∷ filter (has_row t) numbers) (filter (has_row t) numbers))))

pub row_next : (t : NumberedTable) (i n : ℕ) (out after : List ℕ) → i < n → has_row t i ≡ true → after ≡ out ++ with_ends (written_row (row t i) ∷ []) → out ++ written_from t i n ≡ after ++ written_from t (i + 1) n
row_next t i n out after within has added =
    let rest : List ℕ = range_with_len (i + 1) (n - (i + 1)) in
    ap (λ (numbers : List ℕ). out ++ written_for t numbers) (next_range i n within)
    ∙ ap (λ (b : Bool). out ++ chosen t i rest b) has
    ∙ ap (λ (l : List ℕ). out ++ l) (ends-append (written_row (row t i) ∷ []) (map written_row (map (row t) (filter (has_row t) rest))))
    ∙ sym (append_assoc out (with_ends (written_row (row t i) ∷ [])) (written_for t rest))
    ∙ ap (λ (l : List ℕ). l ++ written_for t rest) (sym added)

pub no_row_next : (t : NumberedTable) (i n : ℕ) (out : List ℕ) → i < n → has_row t i ≡ false → out ++ written_from t i n ≡ out ++ written_from t (i + 1) n
no_row_next t i n out within has =
    ap (λ (numbers : List ℕ). out ++ written_for t numbers) (next_range i n within)
    ∙ ap (λ (b : Bool). out ++ chosen t i (range_with_len (i + 1) (n - (i + 1))) b) has

pub rows_end : (t : NumberedTable) (i n : ℕ) (out whole : List ℕ) → n - i ≡ 0 → out ++ written_from t i n ≡ whole → out ≡ whole
rows_end t i n out whole none same = sym (append-nil out) ∙ ap (λ k. out ++ written_for t (range_with_len i k)) (sym none) ∙ same
