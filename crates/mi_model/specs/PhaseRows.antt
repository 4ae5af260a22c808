-- What the rows of a phase touch, each over what the earlier ones leave. (This project's own.)
use Rattle.std.specs.Prelude.{List, [], ◌∷◌, fold, Result, Ok}
use Rattle.mi_base.specs.Machine.{Machine}
use Rattle.mi_base.specs.declared.answers.Fault.{Fault}
use Rattle.mi_changes.specs.Touches.{Touch, after_touches}
use Rattle.mi_model.specs.World.{RowEffect, Effect, World}
use Rattle.mi_model.specs.Refusals.{◌>>=◌}
use Rattle.mi_base.specs.declared.entry.Entry.{Entry}

-- what one row touches
abbrev pub Touches : Type 0
Touches = List (Touch Entry)

-- the machine after rows
abbrev pub after_rows : Machine → List Touches → Machine
after_rows m rows = fold after_touches m rows

-- what each row touches, over what the earlier ones leave, or the first refusal
abbrev pub by_rows : Machine → List RowEffect → Result (List Touches) Fault
by_rows m [] = Ok []
by_rows m (row ∷ rows) = row m >>= λ ts. by_rows (after_touches m ts) rows >>= λ more. Ok (ts ∷ more)

-- what the rows of a phase touch
abbrev pub phase_rows : Effect → World → Result (List Touches) Fault
phase_rows effect w = effect w >>= by_rows w.machine
