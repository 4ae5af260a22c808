-- Rows whose keys differ stand one behind the other in a map.
use Rattle.std.proofs.Common.{◌≡◌, ℕ, zero, suc, Bool, true, false, List, [], ◌∷◌, ◌++◌, length, map, take, refl, sym, ap, ◌∙◌, cond}
use Rattle.indexmap.specs.IndexMap.{insert_entry}
use Rattle.mi_idt.specs.Cells as raw
use Rattle.mi_rows.specs.Typed.{keyed}
use Rattle.mi_rows.specs.Values.{suits, all_suit, key_cells, KeysTell, Row, row_of}
use Rattle.mi_rows.specs.Columns.{Column}
use Rattle.mi_rows.proofs.FitLemmas.{front, back}
use Rattle.mi_rows.proofs.SuitLemmas.{both}
use Rattle.mi_rows.proofs.Words.{each_suits, IsNewKey, KeysDiffer}

-- one row more suits
pub suits_more : (cs : List Column) (rows : List Row) (row : Row) → each_suits cs rows ≡ true → all_suit cs row ≡ true → each_suits cs (rows ++ row ∷ []) ≡ true
suits_more cs [] row so suit = both (all_suit cs row) true suit refl
suits_more cs (r ∷ rows) row so suit =
    both (all_suit cs r) (each_suits cs (rows ++ row ∷ [])) (front (all_suit cs r) (each_suits cs rows) so) (suits_more cs rows row (back (all_suit cs r) (each_suits cs rows) so) suit)

-- the first rows differ
new_front : (cs : List Column) (row : Row) (rows : List (List raw.Cell)) (n : ℕ) → IsNewKey cs row (map (row_of cs) rows) → IsNewKey cs row (map (row_of cs) (take n rows))
new_front cs row rows zero new = tt
new_front cs row [] (suc n) new = tt
new_front cs row (r ∷ rows) (suc n) new = (new.0, new_front cs row rows n new.1)

pub differ_front : (cs : List Column) (rows : List (List raw.Cell)) (n : ℕ) → KeysDiffer cs (map (row_of cs) rows) → KeysDiffer cs (map (row_of cs) (take n rows))
differ_front cs rows zero differ = tt
differ_front cs [] (suc n) differ = tt
differ_front cs (r ∷ rows) (suc n) differ = (new_front cs (row_of cs r) rows n differ.0, differ_front cs rows n differ.1)

pub paired : {K V : Type 0} (key : Row → K) (value : Row → V) (row : Row) (k : K) (v : V) → k ≡ key row → v ≡ value row → ◌≡◌ {A = K × V} (k, v) (key row, value row)
paired key value row k v is also = λ i. (is i, also i)

pub is_long : (cs : List Column) (row : Row) → all_suit cs row ≡ true → length row ≡ length cs
is_long [] [] so = refl
is_long [] (x ∷ xs) so = cc
is_long (c ∷ cs) [] so = cc
is_long (c ∷ cs) (x ∷ xs) so = ap suc (is_long cs xs (back (suits c x) (all_suit cs xs) so))

module _ {K V : Type 0} (eq : K → K → Bool) (cs : List Column) (key : Row → K) (value : Row → V) (tell : KeysTell eq key cs) where
  other_key : (row r : Row) → all_suit cs row ≡ true → all_suit cs r ≡ true → (key_cells cs r ≡ key_cells cs row → ⊥) → eq (key row) (key r) ≡ false
  other_key row r suits suits_r other = by (eq (key row) (key r)) (λ e. other (sym (tell row r suits suits_r e)))
    where
      by : (b : Bool) → (b ≡ true → ⊥) → b ≡ false
      by true not = absurd (not refl)
      by false not = refl

  new_last : (r : Row) (rows : List Row) (row : Row) → IsNewKey cs r (rows ++ row ∷ []) → key_cells cs r ≡ key_cells cs row → ⊥
  new_last r [] row new = new.0
  new_last r (x ∷ rows) row new = new_last r rows row new.1

  skipped : (b : Bool) (e : K × V) (same more : List (K × V)) → b ≡ false → cond b same (e ∷ more) ≡ e ∷ more
  skipped true e same more off = cc
  skipped false e same more off = refl

  keyed_more : (rows : List Row) (row : Row) → each_suits cs rows ≡ true → all_suit cs row ≡ true → KeysDiffer cs (rows ++ row ∷ [])
      → insert_entry eq (keyed key value rows) (key row) (value row) ≡ keyed key value (rows ++ row ∷ [])
  keyed_more [] row so suit differ = refl
  keyed_more (x ∷ rows) row so suit differ =
      skipped (eq (key row) (key x)) (key x, value x) _ _ (other_key row x suit (front (all_suit cs x) (each_suits cs rows) so) (new_last x rows row differ.0))
      ∙ ap (λ (es : List (K × V)). (key x, value x) ∷ es) (keyed_more rows row (back (all_suit cs x) (each_suits cs rows) so) suit differ.1)

  -- a row more
  pub entries_more : (entries next : List (K × V)) (rows : List Row) (row : Row) (k : K) (v : V) → each_suits cs rows ≡ true → all_suit cs row ≡ true → KeysDiffer cs (rows ++ row ∷ []) → entries ≡ keyed key value rows → next ≡ insert_entry eq entries k v
      → ◌≡◌ {A = K × V} (k, v) (key row, value row) → next ≡ keyed key value (rows ++ row ∷ [])
  entries_more entries next rows row k v so suit differ are is pair =
      is ∙ ap (λ (es : List (K × V)). insert_entry eq es k v) are ∙ ap (λ (p : K × V). insert_entry eq (keyed key value rows) p.0 p.1) pair ∙ keyed_more rows row so suit differ
