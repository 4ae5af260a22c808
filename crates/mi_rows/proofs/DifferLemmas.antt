-- No two rows of a table without a fault have one key.
use Rattle.std.proofs.Common.{◌≡◌, ◌≢◌, ◌||◌, append_assoc, ℕ, ◌+◌, not, true, false, cond, List, [], ◌∷◌, ◌++◌, length, map, get_or, refl, sym, ap, subst, ◌∙◌, inl, inr, arith, Option, Some, None}
use Rattle.std.specs.List.{All, AllPairs}
use Rattle.std.specs.Str.{bytes_eq}
use Rattle.std.proofs.lemmas.Bool.{cases_Bool}
use Rattle.std.proofs.lemmas.List.{length-append}
use Rattle.std.proofs.lemmas.List.Elements.{All-head, All-tail}
use Rattle.std.proofs.lemmas.Slice.Eq.{bytes_eq-Decides}
use Rattle.mi_idt.specs.Cells as raw
use Rattle.mi_idt.proofs.Pairs.{AllPairs-head, AllPairs-tail}
use Rattle.mi_rows.specs.Cells.{Cell}
use Rattle.mi_rows.specs.Cells.{Text, Integer}
use Rattle.mi_rows.specs.declared.column.Kind.{Kind}
use Rattle.mi_rows.specs.declared.column.Kind.TheVariants as kind
use Rattle.mi_rows.specs.Reads.{FitsKind}
use Rattle.mi_rows.specs.Rows.{key_places, begins_with}
use Rattle.mi_rows.specs.Values.{key_cell, key_cells, Row, value_of, row_of, tells, keys_tell}
use Rattle.mi_rows.specs.Columns.{Column, Table}
use Rattle.mi_rows.proofs.FitLemmas.{AllFit, front, back}
use Rattle.mi_rows.proofs.SuitLemmas.{EachFits, IsFaultless, faultless}
use Rattle.mi_rows.proofs.Words.{AreRowsOf, IsNewKey, KeysDiffer}

-- ---- a value tells its field

-- a field as a value in a key
abbrev plain : raw.Cell → Option Cell
plain raw.Nothing = None
plain (raw.Text text) = Some (Text text)
plain (raw.Number z) = Some (Integer z)

as_plain : (k : Kind) (x : raw.Cell) → tells k ≡ true → FitsKind k x → key_cell (value_of k x) ≡ plain x
as_plain k raw.Nothing on fit = refl
as_plain k (raw.Number z) on fit = refl
as_plain kind.Integer (raw.Text text) on fit = absurd fit
as_plain kind.Code (raw.Text text) on fit = cc
as_plain kind.Condition (raw.Text text) on fit = refl
as_plain kind.Text (raw.Text text) on fit = refl
as_plain kind.Name (raw.Text text) on fit = refl
as_plain kind.Pattern (raw.Text text) on fit = refl
as_plain kind.Formatted (raw.Text text) on fit = refl

one_field : (x y : raw.Cell) → plain x ≡ plain y → x ≡ y
one_field raw.Nothing raw.Nothing e = refl
one_field raw.Nothing (raw.Text text) e = cc
one_field raw.Nothing (raw.Number z) e = cc
one_field (raw.Text text) raw.Nothing e = cc
one_field (raw.Text text) (raw.Text other) e = let same : text ≡ other = cc in ap raw.Text same
one_field (raw.Text text) (raw.Number z) e = cc
one_field (raw.Number z) raw.Nothing e = cc
one_field (raw.Number z) (raw.Text text) e = cc
one_field (raw.Number z) (raw.Number w) e = let same : z ≡ w = cc in ap raw.Number same

told : (k : Kind) (x y : raw.Cell) → tells k ≡ true → FitsKind k x → FitsKind k y → key_cell (value_of k x) ≡ key_cell (value_of k y) → x ≡ y
told k x y on fit more e = one_field x y (sym (as_plain k x on fit) ∙ e ∙ as_plain k y on more)

-- ---- the fields of a key

-- the fields in the key columns
abbrev key_fields : List Column → List raw.Cell → List raw.Cell
key_fields (c ∷ cs) (x ∷ xs) = cond c.key (x ∷ key_fields cs xs) (key_fields cs xs)
key_fields cs xs = []

at_length : (before : List raw.Cell) (x : raw.Cell) (xs : List raw.Cell) → get_or (before ++ x ∷ xs) (length before) raw.Nothing ≡ x
at_length [] x xs = refl
at_length (y ∷ before) x xs = at_length before x xs

-- the places of the key columns hold them
placed : (before : List raw.Cell) (cs : List Column) (xs : List raw.Cell) (n : ℕ) → n ≡ length before → AllFit cs xs → raw.key_of (key_places n cs) (before ++ xs) ≡ key_fields cs xs
placed before [] xs n long fit = refl
placed before (c ∷ cs) [] n long fit = absurd fit
placed before (c ∷ cs) (x ∷ xs) n long fit =
    let rest : raw.key_of (key_places (n + 1) cs) (before ++ x ∷ xs) ≡ key_fields cs xs =
    ap (raw.key_of (key_places (n + 1) cs)) (sym (append_assoc before (x ∷ []) xs)) ∙ placed (before ++ x ∷ []) cs xs (n + 1) (let more = length-append before (x ∷ []) in omega (arith, more, long)) fit.1 in
    elim c.key as (λ b. raw.key_of (cond b (n ∷ key_places (n + 1) cs) (key_places (n + 1) cs)) (before ++ x ∷ xs) ≡ cond b (x ∷ key_fields cs xs) (key_fields cs xs)) [
      | true ↦ ap (λ y. y ∷ raw.key_of (key_places (n + 1) cs) (before ++ x ∷ xs)) (ap (λ m. get_or (before ++ x ∷ xs) m raw.Nothing) long ∙ at_length before x xs) ∙ ap (λ ys. x ∷ ys) rest
      | false ↦ rest
    ]

-- equal keys of two rows are equal fields
key_told : (cs : List Column) (xs ys : List raw.Cell) → keys_tell cs ≡ true → AllFit cs xs → AllFit cs ys → key_cells cs (row_of cs xs) ≡ key_cells cs (row_of cs ys) → key_fields cs xs ≡ key_fields cs ys
key_told [] xs ys on fit more e = refl
key_told (c ∷ cs) [] ys on fit more e = absurd fit
key_told (c ∷ cs) (x ∷ xs) [] on fit more e = absurd more
key_told (c ∷ cs) (x ∷ xs) (y ∷ ys) on fit more e =
    let one = front (not c.key || tells c.kind) (keys_tell cs) on in
    let rest = key_told cs xs ys (back (not c.key || tells c.kind) (keys_tell cs) on) fit.1 more.1 in
    elim (cases_Bool c.key) [
      | inl key ↦
          let same = sym (ap (λ b. cond b (key_cell (value_of c.kind x) ∷ key_cells cs (row_of cs xs)) (key_cells cs (row_of cs xs))) key) ∙ e ∙ ap (λ b. cond b (key_cell (value_of c.kind y) ∷ key_cells cs (row_of cs ys)) (key_cells cs (row_of cs ys))) key in
          let head : key_cell (value_of c.kind x) ≡ key_cell (value_of c.kind y) = cc in
          let tail : key_cells cs (row_of cs xs) ≡ key_cells cs (row_of cs ys) = cc in
          let tell : tells c.kind ≡ true = sym (ap (λ b. not b || tells c.kind) key) ∙ one in
          rw key (λ i. told c.kind x y tell fit.0 more.0 head i ∷ rest tail i)
      | inr other ↦
          let same : key_cells cs (row_of cs xs) ≡ key_cells cs (row_of cs ys) = sym (ap (λ b. cond b (key_cell (value_of c.kind x) ∷ key_cells cs (row_of cs xs)) (key_cells cs (row_of cs xs))) other) ∙ e ∙ ap (λ b. cond b (key_cell (value_of c.kind y) ∷ key_cells cs (row_of cs ys)) (key_cells cs (row_of cs ys))) other in
          rw other (rest same)
    ]

-- ---- rows whose keys differ

module _ (cs : List Column) (tell : keys_tell cs ≡ true) where
  abbrev key : List raw.Cell → List raw.Cell
  key = raw.key_of (key_places 0 cs)

  is_new : (row : List raw.Cell) (rows : List (List raw.Cell)) → AllFit cs row → EachFits cs rows → All (λ k. key row ≢ k) (map key rows) → IsNewKey cs (row_of cs row) (map (row_of cs) rows)
  is_new row [] fit more all = tt
  is_new row (r ∷ rows) fit more all = (
    λ e. All-head (λ k. key row ≢ k) (key r) (map key rows) all (placed [] cs row 0 refl fit ∙ key_told cs row r tell fit more.0 e ∙ sym (placed [] cs r 0 refl more.0)),
    is_new row rows fit more.1 (All-tail (λ k. key row ≢ k) (key r) (map key rows) all),
  )

  pub differ : (rows : List (List raw.Cell)) → EachFits cs rows → AllPairs (λ j k. j ≢ k) (map key rows) → KeysDiffer cs (map (row_of cs) rows)
  differ [] fit pairs = tt
  differ (row ∷ rows) fit pairs = (
    is_new row rows fit.0 fit.1 (AllPairs-head (λ j k. j ≢ k) (key row) (map key rows) pairs),
    differ rows fit.1 (AllPairs-tail (λ j k. j ≢ k) (key row) (map key rows) pairs),
  )

faultless_differ : (t : Table) (v : raw.TableValue) (rows : List Row) → keys_tell t.columns ≡ true → IsFaultless t v rows → KeysDiffer t.columns rows
faultless_differ t v rows tell is =
    let keys : v.keys ≡ key_places 0 t.columns = (bytes_eq-Decides v.keys (key_places 0 t.columns)).0 (front (bytes_eq v.keys (key_places 0 t.columns)) (begins_with t.columns v.columns) is.columns) in
    subst (KeysDiffer t.columns) is.held
    (differ t.columns tell v.rows is.fit (subst (λ (places : List ℕ). AllPairs (λ j k. j ≢ k) (map (raw.key_of places) v.rows)) keys is.apart.1.spelled.keys_apart))

pub keys_differ : (t : Table) (rows : List Row) → keys_tell t.columns ≡ true → AreRowsOf t rows → KeysDiffer t.columns rows
keys_differ t rows tell are = elim (faultless t rows are) [
  | inl none ↦ subst (KeysDiffer t.columns) (sym none) tt
  | inr known ↦ faultless_differ t known.0 rows tell known.1
]
