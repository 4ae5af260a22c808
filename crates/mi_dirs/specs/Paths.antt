-- The way from a row up its parents, and the rows that are placed so far.
use Rattle.std.specs.Prelude.{◌≡◌, ℕ, suc, ◌<◌, Bool, true, false, List, [], ◌∷◌, length, Option, Some, None, slice_get, Contains}
use Rattle.mi_dirs.specs.Chains.{ends_in}
use Rattle.mi_dirs.specs.Order.{IsOrdered}
use Rattle.mi_dirs.specs.declared.placing.Placing.{Placing}

-- the rows lead from the first to the last, each to its parent
abbrev pub LeadsTo : (ℕ → Option ℕ) → List ℕ → Option ℕ → Option ℕ → Type 0
LeadsTo parent [] first last = first ≡ last
LeadsTo parent (row ∷ rows) first last = (first ≡ Some row) × LeadsTo parent rows (parent row) last

abbrev pub AllBelow : ℕ → List ℕ → Type 0
AllBelow n [] = Unit {0}
AllBelow n (x ∷ xs) = (x < n) × AllBelow n xs

-- there is no such row, or it is placed
abbrev pub IsPlaced : List Bool → Option ℕ → Type 0
IsPlaced placed None = Unit {0}
IsPlaced placed (Some row) = slice_get placed row ≡ Some true

-- a way up over rows that aren't placed to one that is, or to the end of the chain
pub record IsWayUp (parent : ℕ → Option ℕ) (rows : ℕ) (placed : List Bool) (first : Option ℕ) (path : List ℕ) : Type 0 where
  pub last : Option ℕ
  pub leads : LeadsTo parent path first last
  pub below : AllBelow rows path
  pub unplaced : (row : ℕ) → Contains path row → slice_get placed row ≡ Some false
  pub placed_last : IsPlaced placed last

-- what the placed rows are: each behind its parent, and with a chain that ends
pub record ArePlaced (parent : ℕ → Option ℕ) (rows : ℕ) (p : Placing) : Type 0 where
  pub size : length p.placed.items ≡ rows
  pub ordered : IsOrdered parent rows p.order.items
  pub known : (row : ℕ) → slice_get p.placed.items row ≡ Some true → Contains p.order.items row
  pub marked : (row : ℕ) → Contains p.order.items row → slice_get p.placed.items row ≡ Some true
  pub ending : (row : ℕ) → Contains p.order.items row → ends_in parent (suc rows) row ≡ true

-- the rows of the path are placed too
pub record Places (before after : Placing) (path : List ℕ) : Type 0 where
  pub kept : (row : ℕ) → Contains before.order.items row → Contains after.order.items row
  pub placed : (row : ℕ) → Contains path row → Contains after.order.items row
