-- The one condition of a component.
use Rattle.std.proofs.Common.{◌≡◌, ℕ, ◌<◌, length, get_or, arith, lit<, true, false, List, [], ◌∷◌, Option, Some, None, refl}
use Rattle.mi_cond.specs.Tree.{Tree}
use Rattle.mi_rows.specs.declared.column.Kind.TheVariants as kind
use Rattle.mi_rows.specs.declared.column.Rule.TheVariants.{Free}
use Rattle.mi_rows.specs.Cells.{Cell, Text, Integer, Code, Condition}
use Rattle.mi_rows.specs.Columns.{Column}
use Rattle.mi_rows.specs.Fields.{last_condition}
use Rattle.mi_rows.specs.Rows.{◌or_else◌}
use Rattle.mi_rows.specs.Typed.{some_condition_in}
use Rattle.mi_rows.specs.Values.{Row, cell_at, suits_kind, suits, all_suit}
use Rattle.mi_rows.proofs.RowsLemmas.{is_long}
use Rattle.mi_schema.specs.declared.known.Known.TheVariants as of
use Rattle.mi_schema.specs.Tables.{layout_of, key}
use Rattle.mi_schema.proofs.CellLaws.{suit_at}

-- a value of a column of no conditions
no_condition : (c : Column) → ((text : List ℕ) (tree : Tree) → suits_kind c.kind (Condition text tree) ≡ false) → (x : Option Cell) → suits c x ≡ true → some_condition_in x ≡ None
no_condition c never None on = refl
no_condition c never (Some (Text text)) on = refl
no_condition c never (Some (Integer z)) on = refl
no_condition c never (Some (Code code)) on = refl
no_condition c never (Some (Condition text tree)) on = let off = never text tree in cc

-- a component has one condition
module _ where
  abbrev cs : List Column
  cs = (layout_of of.Component).columns

  abbrev at : ℕ → Column
  at i = get_or cs i (get_or cs 0 (key [] kind.Text Free))

  alone : (o : Option Tree) → (((((None or_else o) or_else None) or_else None) or_else None) or_else None) ≡ o
  alone None = refl
  alone (Some tree) = refl

  six : (row : Row) → all_suit cs row ≡ true → length row ≡ 6 → last_condition row ≡ some_condition_in (cell_at row 4)
  six [] on long = absurd (omega (arith, long))
  six (a ∷ []) on long = absurd (omega (arith, long))
  six (a ∷ b ∷ []) on long = absurd (omega (arith, long))
  six (a ∷ b ∷ c ∷ []) on long = absurd (omega (arith, long))
  six (a ∷ b ∷ c ∷ d ∷ []) on long = absurd (omega (arith, long))
  six (a ∷ b ∷ c ∷ d ∷ e ∷ []) on long = absurd (omega (arith, long))
  six (a ∷ b ∷ c ∷ d ∷ e ∷ f ∷ g ∷ more) on long = absurd (omega (arith, long))
  six (a ∷ b ∷ c ∷ d ∷ e ∷ f ∷ []) on long =
      let row : Row = a ∷ b ∷ c ∷ d ∷ e ∷ f ∷ [] in
      let none : (i : ℕ) → i < 6 → ((text : List ℕ) (tree : Tree) → suits_kind (at i).kind (Condition text tree) ≡ false) → some_condition_in (get_or row i None) ≡ None = λ i lt never. no_condition (at i) never (get_or row i None) (suit_at cs row on i _ lt).0 in
      rw (none 0 (lit< tt) (λ text tree. refl), none 1 (lit< tt) (λ text tree. refl), none 2 (lit< tt) (λ text tree. refl), none 3 (lit< tt) (λ text tree. refl), none 5 (lit< tt) (λ text tree. refl)) (alone (some_condition_in e))

  pub component_condition : (row : Row) → all_suit cs row ≡ true → last_condition row ≡ some_condition_in (cell_at row 4)
  component_condition row on = six row on (is_long cs row on)
