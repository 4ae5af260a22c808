use Rattle.std.proofs.Common.{◌≡◌, ◌++◌, map, drop, List, ℕ}
use Rattle.std.specs.Prelude.{All, Ok}
use Rattle.mi_text.specs.Maps.{Map}
use Rattle.mi_image.specs.Items.{machine_over}
use Rattle.mi_schema.specs.declared.typed_rows.ComponentRow.{ComponentRow}
use Rattle.mi_schema.specs.RowsOf.{rows_in}
use Rattle.mi_model.specs.Refusals.{◌>>=◌, each}
use Rattle.mi_components.specs.declared.component.ComponentChoice.{ComponentChoice}
use Rattle.mi_select.specs.Chosen.{chosen_entry, IsChosenAt}
use Rattle.mi_select.specs.Selections.{as_named}
use Rattle.mi_select.proofs.selecting.named_components.Given as goal

abbrev pub invariant-loop-row : goal.invariant-loop-row
invariant-loop-row g l = (held files : Map (List ℕ)) (choice : ComponentRow → ComponentChoice) → All (IsChosenAt l.choices choice) l.rows
    → each (chosen_entry (machine_over held files l.former) (rows_in l.loaded) l.dirs (g.E.Env.lookups l.env) choice) (map (λ r. r.1.now) l.rows)
    ≡ (each (chosen_entry (machine_over held files l.former) (rows_in l.loaded) l.dirs (g.E.Env.lookups l.env) choice) (map (λ r. r.1.now) (drop l.row-index l.rows)) >>= λ ys. Ok (map as_named l.named.items ++ ys))
