-- What the laws say of phases: the machine that one leaves, what its rows make of what stands at a name, and which names it changes.
-- (This project's own.)
use Rattle.std.specs.Prelude.{◌≡◌, false, List, nat_eq, Option, Ok, fold, find}
use Rattle.std.specs.List.{list_any, starts_with}
use Rattle.std.specs.FinMap.{get}
use Rattle.mi_text.specs.Maps.{Name, same_name}
use Rattle.mi_base.specs.declared.entry.Entry.{Entry}
use Rattle.mi_base.specs.Machine.{Machine}
use Rattle.mi_base.specs.Spelling.{name_of}
use Rattle.mi_model.specs.Texts.{Text}
use Rattle.mi_model.specs.World.{World, Effect}
use Rattle.mi_model.specs.PhaseRows.{Touches, after_rows, phase_rows}

-- the machine that a phase leaves in a world, where no row is refused
pub record IsAfter (effect : Effect) (w : World) (m : Machine) : Type 0 where
  pub rows : List Touches
  pub touched : phase_rows effect w ≡ Ok rows
  pub machine : m ≡ after_rows w.machine rows

-- what rows make of what stood at a name, one after the other
abbrev pub in_turn : {R : Type 0} → (R → Option Entry → Option Entry) → List R → Option Entry → Option Entry
in_turn step rows old = fold (λ now r. step r now) old rows

-- the first of these entries that has the name
abbrev pub first_named : Name → List Entry → Option Entry
first_named q es = find (λ e. same_name q (name_of e)) es

-- names that don't begin so are as before
abbrev pub ChangesOnly : List Text → Effect → Type 0
ChangesOnly fronts effect = (w : World) (m : Machine) → IsAfter effect w m → (q : Name) → list_any (starts_with nat_eq q) fronts ≡ false → get m q ≡ get w.machine q
