-- Rows whose keys differ have typed keys that differ, and the form of the source files.
use Rattle.std.proofs.Common.{◌≡◌, ◌≢◌, ◌||◌, ◌&&◌, not, ℕ, zero, suc, ◌<◌, ◌≤◌, Bool, true, false, cond, List, [], ◌∷◌, length, get_or, Option, Some, None, refl, sym, ap, ◌∙◌, arith, inl, inr}
use Rattle.std.specs.Prelude.{find, option_map}
use Rattle.std.proofs.lemmas.Bool.{cases_Bool}
use Rattle.std.proofs.lemmas.List.{length-map}
use Rattle.std.proofs.lemmas.Slice.Zip.{AllZip-long}
use Rattle.mi_base.specs.declared.answers.Fault.TheVariants.{Compressed}
use Rattle.mi_schema.specs.declared.typed_rows.FileRow.{FileRow}
use Rattle.mi_schema.specs.Source.{is_compressed, file_fault}
use Rattle.mi_schema.specs.Laws.{AreFew, HaveOwnKeys}
use Rattle.mi_rows.specs.Typed.{keyed}
use Rattle.mi_rows.specs.Values.{all_suit, key_cells, Row, row_of, keys_tell}
use Rattle.mi_rows.specs.Columns.{Column, Table}
use Rattle.mi_schema.proofs.CellLaws.{each_suit_at}
use Rattle.mi_rows.proofs.DifferLemmas.{keys_differ}
use Rattle.mi_schema.proofs.ReferenceLaws.{keyed_long}
use Rattle.mi_rows.proofs.SuitLemmas.{faultless, rows_suit}
use Rattle.mi_schema.proofs.ValueLaws.{pairs_keyed}
use Rattle.mi_rows.proofs.Words.{AreRowsOf, IsNewKey, KeysDiffer}

-- ---- keys

new_at : (cs : List Column) (row : Row) (rows : List Row) (n : ℕ) → n < length rows → IsNewKey cs row rows → key_cells cs row ≡ key_cells cs (get_or rows n []) → ⊥
new_at cs row [] n lt new = absurd (omega arith)
new_at cs row (r ∷ rows) zero lt new = new.0
new_at cs row (r ∷ rows) (suc n) lt new = new_at cs row rows n (omega arith) new.1

differ_at : (cs : List Column) (rows : List Row) (m n : ℕ) → m < n → n < length rows → KeysDiffer cs rows → key_cells cs (get_or rows m []) ≡ key_cells cs (get_or rows n []) → ⊥
differ_at cs [] m n before lt differ = absurd (omega arith)
differ_at cs (r ∷ rows) m zero before lt differ = absurd (omega arith)
differ_at cs (r ∷ rows) zero (suc n) before lt differ = new_at cs r rows n (omega arith) differ.0
differ_at cs (r ∷ rows) (suc m) (suc n) before lt differ = differ_at cs rows m n (omega arith) (omega arith) differ.1

-- no two rows of a table without a fault have one typed key, where that tells the values of the key columns
pub own_keys : {K R : Type 0} (key : Row → K) (row : Row → R) (cells : K → Row) (t : Table) (rows : List Row) → AreRowsOf t rows → keys_tell t.columns ≡ true → ((r : Row) → all_suit t.columns r ≡ true → key_cells t.columns r ≡ cells (key r))
    → (entries : List (K × R)) → entries ≡ keyed key row rows → HaveOwnKeys entries
own_keys key row cells t rows are tell tells entries is = pairs_keyed key row (λ a b. a.0 ≢ b.0) rows entries is (λ m n before lt same.
    let suits = rows_suit t rows are in
    let also : m < length rows = omega (arith, before, lt) in
    differ_at t.columns rows m n before lt (keys_differ t rows tell are)
    (tells (get_or rows m []) (each_suit_at t.columns rows suits m also) ∙ ap cells same ∙ sym (tells (get_or rows n []) (each_suit_at t.columns rows suits n lt))))

-- ---- sizes

few_rows : (t : Table) (rows : List Row) → AreRowsOf t rows → length rows ≤ 65535
few_rows t rows are = elim (faultless t rows are) [
  | inl none ↦ let long = ap length none in omega (arith, long)
  | inr known ↦
      let spelled = known.1.apart.1.spelled in
      let lines = spelled.few_rows in
      let same = AllZip-long _ _ _ spelled.rows_are in
      let mapped = length-map known.0.rows (row_of t.columns) in
      let held = ap length known.1.held in
      omega (arith, lines, same, mapped, held)
]

pub few_keyed : {K R : Type 0} (key : Row → K) (row : Row → R) (t : Table) (rows : List Row) → AreRowsOf t rows → (entries : List (K × R)) → entries ≡ keyed key row rows → AreFew entries
few_keyed key row t rows are entries is =
    let few = few_rows t rows are in
    let long = keyed_long key row rows in
    let same = ap length is in
    omega (arith, few, long, same)

-- ---- the form of the source files

no_row : (o : Option FileRow) → option_map (λ (r : FileRow). Compressed r.file) o ≡ None → o ≡ None
no_row None e = refl
no_row (Some r) e = cc

first : (test : FileRow → Bool) (r : FileRow) (rows : List FileRow) → cond (test r) (Some r) (find test rows) ≡ None → (test r ≡ false) × (find test rows ≡ None)
first test r rows e = elim (cases_Bool (test r)) [
  | inl on ↦ let some : Some r ≡ None = sym (ap (λ b. cond b (Some r) (find test rows)) on) ∙ e in absurd cc
  | inr off ↦ (off, sym (ap (λ b. cond b (Some r) (find test rows)) off) ∙ e)
]

none_passes : (test : FileRow → Bool) (rows : List FileRow) → find test rows ≡ None → (n : ℕ) (d : FileRow) → n < length rows → test (get_or rows n d) ≡ false
none_passes test [] e n d lt = absurd (omega arith)
none_passes test (r ∷ rows) e zero d lt = (first test r rows e).0
none_passes test (r ∷ rows) e (suc n) d lt = none_passes test rows (first test r rows e).1 n d (omega arith)

pub no_file : (source : Bool) (rows : List FileRow) → file_fault source rows ≡ None → (n : ℕ) (d : FileRow) → n < length rows → is_compressed source (get_or rows n d) ≡ false
no_file source rows e n d lt = none_passes (is_compressed source) rows (no_row (find (is_compressed source) rows) e) n d lt

pub neither : (a b : Bool) → (a || b) ≡ false → (a ≡ false) × (b ≡ false)
neither true b e = cc
neither false b e = (refl, e)

pub without : (a b : Bool) → (a && not b) ≡ false → a ≡ true → b ≡ true
without true true e on = refl
without true false e on = cc
without false b e on = cc
