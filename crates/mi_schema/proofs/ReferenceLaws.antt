-- Rows that are named are there.
use Rattle.std.proofs.Common.{◌≡◌, ◌||◌, ℕ, zero, suc, ◌<◌, Bool, true, false, List, [], ◌∷◌, length, map, take, get_or, Option, Some, None, cond, ◌+◌, refl, sym, ap, subst, ◌∙◌, arith}
use Rattle.std.specs.Prelude.{is_some, option_map, nat_lt, IfSome, Contains, All}
use Rattle.std.specs.Map.{keys_of as keys_of_map}
use Rattle.std.proofs.lemmas.Bool.Decides.{nat_tests}
use Rattle.std.proofs.lemmas.Bool.{cases_Bool}
use Rattle.std.proofs.lemmas.List.{length-map}
use Rattle.std.proofs.Common.{inl, inr}
use Rattle.mi_text.specs.Maps.{Name, same_name}
use Rattle.mi_text.proofs.MapLemmas.{from_same}
use Rattle.mi_rows.specs.Cells.{Cell}
use Rattle.mi_rows.specs.declared.column.Kind.TheVariants as kind
use Rattle.mi_rows.specs.declared.column.Rule.TheVariants as rule
use Rattle.mi_base.specs.declared.answers.Fault.TheVariants.{Reference}
use Rattle.mi_schema.specs.declared.known.Target.{Target}
use Rattle.mi_schema.specs.Checks.{Content, rows_at}
use Rattle.mi_schema.specs.Laws.{EachRow}
use Rattle.mi_schema.specs.Dangling.{keys_in, names, may_name, must_name}
use Rattle.mi_schema.specs.References.{first_dangling}
use Rattle.mi_schema.specs.RowsOf.{behind}
use Rattle.mi_rows.specs.Typed.{keyed}
use Rattle.mi_schema.specs.TableRows.{Rows}
use Rattle.mi_rows.specs.Rows.{keys_of}
use Rattle.mi_rows.specs.Values.{suits, Row, is_key_in}
use Rattle.mi_rows.specs.Columns.{Column, Table}
use Rattle.mi_schema.proofs.CellLaws.{AreTables, IsKnown, Stands, value_at, of_table, stands_at, suits_at}
use Rattle.mi_rows.proofs.SuitLemmas.{or_none, map_none}

-- ---- rows behind their keys

module _ {K R : Type 0} (key : Row → K) (row : Row → R) where
  pub keyed_at : (rows : List Row) (n : ℕ) (d : K × R) → n < length rows → get_or (keyed key row rows) n d ≡ (key (get_or rows n []), row (get_or rows n []))
  keyed_at [] n d lt = absurd (omega arith)
  keyed_at (r ∷ rows) zero d lt = refl
  keyed_at (r ∷ rows) (suc n) d lt = keyed_at rows n d (omega arith)

  pub keyed_long : (rows : List Row) → length (keyed key row rows) ≡ length rows
  keyed_long rows = length-map rows (λ r. (key r, row r))

  pub each_keyed : (P : K × R → Type 0) (rows : List Row) (entries : List (K × R)) → entries ≡ keyed key row rows → ((n : ℕ) → n < length rows → P (key (get_or rows n []), row (get_or rows n []))) → All P entries
  each_keyed P rows entries is h = subst (All P) (sym is) (λ n d lt. let there : n < length rows = let long = keyed_long rows in omega (arith, long, lt) in subst P (sym (keyed_at rows n d there)) (h n there))

  keys_map : (rows : List Row) → keys_of_map (keyed key row rows) ≡ map key rows
  keys_map [] = refl
  keys_map (r ∷ rows) = ap (λ ks. key r ∷ ks) (keys_map rows)

  pub keys_keyed : (rows : List Row) (entries : List (K × R)) → entries ≡ keyed key row rows → keys_of_map entries ≡ map key rows
  keys_keyed rows entries is = ap keys_of_map is ∙ keys_map rows

  -- the row at a place is among the entries
  pub keyed_has : (rows : List Row) (n : ℕ) → n < length rows → Contains (keyed key row rows) (key (get_or rows n []), row (get_or rows n []))
  keyed_has rows n lt = (n, (let long = keyed_long rows in omega (arith, long, lt)), keyed_at rows n (key (get_or rows n []), row (get_or rows n [])) lt)

-- ---- keys

-- a key of a list is there
pub key_found : (keys : List Name) (q : Name) → is_key_in keys q ≡ true → (j : ℕ) × (j < length keys) × ((d : Name) → get_or keys j d ≡ q)
key_found [] q e = cc
key_found (k ∷ keys) q e = elim (cases_Bool (same_name q k)) [
  | inl same ↦ (0, omega arith, λ d. sym (from_same q k same))
  | inr other ↦
      let rest = key_found keys q (sym (ap (λ b. b || is_key_in keys q) other) ∙ e) in
      (suc rest.0, (let lt = rest.1 in omega (arith, lt)), rest.2)
]

pub key_there : (keys : List Name) (q : Name) → is_key_in keys q ≡ true → Contains keys q
key_there keys q e = let found = key_found keys q e in (found.0, found.1, found.2 q)

pub not_null : (c : Column) (x : Option Cell) → suits c x ≡ true → c.nullable ≡ false → is_some x ≡ true
not_null c None on off = let wrong : true ≡ false = sym on ∙ off in cc
not_null c (Some value) on off = refl

abbrev pub any_column : Column
any_column = record { name = []; kind = kind.Text; nullable = true; key = false; rule = rule.Free }

-- the column at a place
abbrev pub column_at : Table → ℕ → Column
column_at t i = get_or t.columns i any_column

pub column_there : (t : Table) (i : ℕ) → nat_lt i (length t.columns) ≡ true → i < length t.columns
column_there t i e = grind (arith, nat_tests)

-- the value of a row suits its column, and stands there
module _ (content : Content) (are : AreTables content) (t : Table) (known : IsKnown t) (i n : ℕ) (lt : n < length (rows_at content t)) (below : nat_lt i (length t.columns) ≡ true) where
  pub suits_here : suits (column_at t i) (value_at (rows_at content t) n i) ≡ true
  suits_here = (suits_at t (rows_at content t) (of_table content are t known) n i any_column lt (column_there t i below)).0

  pub stands_here : Stands (column_at t i) (keys_of (rows_at content t)) (take n (rows_at content t)) (take i (get_or (rows_at content t) n [])) (value_at (rows_at content t) n i)
  stands_here = stands_at t (rows_at content t) (of_table content are t known) n i any_column lt (column_there t i below)

-- ---- rows that name rows

pub behind_at : {K R : Type 0} (entries : List (K × R)) (n : ℕ) (d : K × R) → n < length entries → get_or (behind entries) n d.1 ≡ (get_or entries n d).1
behind_at [] n d lt = absurd (omega arith)
behind_at (e ∷ es) zero d lt = refl
behind_at (e ∷ es) (suc n) d lt = behind_at es n d (omega arith)

pub behind_long : {K R : Type 0} (entries : List (K × R)) → length (behind entries) ≡ length entries
behind_long entries = length-map entries (λ e. e.1)

-- what holds of each row behind its key
pub each_behind : {K R : Type 0} (P : R → Type 0) (entries : List (K × R)) → ((n : ℕ) (d : R) → n < length (behind entries) → P (get_or (behind entries) n d)) → EachRow entries P
each_behind P entries h = λ n d lt. subst P (behind_at entries n d lt) (h n d.1 (let long = behind_long entries in omega (arith, long, lt)))

dangles_at : {R : Type 0} (table : Name) (f : R → Option ℕ) (number : ℕ) (rows : List R) → first_dangling table f number rows ≡ None → (n : ℕ) (d : R) → n < length rows → f (get_or rows n d) ≡ None
dangles_at table f number [] e n d lt = absurd (omega arith)
dangles_at table f number (r ∷ rows) e zero d lt = map_none (Reference table number) (f r) (or_none (option_map (Reference table number) (f r)) (first_dangling table f (number + 1) rows) e).0
dangles_at table f number (r ∷ rows) e (suc n) d lt = dangles_at table f (number + 1) rows (or_none (option_map (Reference table number) (f r)) (first_dangling table f (number + 1) rows) e).1 n d (omega arith)

-- no row of a table dangles
pub each_named : {K R : Type 0} (table : Name) (f : R → Option ℕ) (P : R → Type 0) (entries : List (K × R)) → ((r : R) → f r ≡ None → P r) → first_dangling table f 1 (behind entries) ≡ None → EachRow entries P
each_named table f P entries h none = each_behind P entries (λ n d lt. h (get_or (behind entries) n d) (dangles_at table f 1 (behind entries) none n d lt))

module _ (keys held : List Name) (are : held ≡ keys) (column : ℕ) where
  pub there : (q : Name) → cond (is_key_in keys q) None (Some column) ≡ None → Contains held q
  there q none = subst (λ (ks : List Name). Contains ks q) (sym are) (key_there keys q (found (is_key_in keys q) none))
    where
      found : (b : Bool) → cond b None (Some column) ≡ None → b ≡ true
      found true e = refl
      found false e = cc

module _ (rows : Rows) (target : Target) (held : List Name) (are : held ≡ keys_in rows target) (column : ℕ) where
  pub named_there : (q : Name) → names rows target column q ≡ None → Contains held q
  named_there q none = there (keys_in rows target) held are column q none

  pub may_be_there : (o : Option Name) → may_name rows target column o ≡ None → IfSome o (Contains held)
  may_be_there None e = tt
  may_be_there (Some q) e = named_there q e

  pub must_be_there : (o : Option Name) → must_name rows target column o ≡ None → (q : Name) × (o ≡ Some q) × Contains held q
  must_be_there None e = cc
  must_be_there (Some q) e = (q, refl, named_there q e)

-- rows that stand under the keys that they have
pub named_keys : {R : Type 0} (key : Row → Name) (row : Row → R) (field : R → Name) → ((r : Row) → field (row r) ≡ key r) → (rows : List Row) (entries : List (Name × R)) → entries ≡ keyed key row rows → keys_of_map entries ≡ map field (behind entries)
named_keys key row field same rows entries is = ap keys_of_map is ∙ pairs rows ∙ ap (λ (es : List _). map field (behind es)) (sym is)
  where
    pairs : (rows : List Row) → keys_of_map (keyed key row rows) ≡ map field (behind (keyed key row rows))
    pairs [] = refl
    pairs (r ∷ rows) = ap (λ (q : Name). q ∷ keys_of_map (keyed key row rows)) (sym (same r)) ∙ ap (λ (qs : List Name). field (row r) ∷ qs) (pairs rows)
