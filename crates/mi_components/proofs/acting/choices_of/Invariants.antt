use Rattle.std.proofs.Common.{◌≡◌, ◌++◌, map, List, ℕ}
use Rattle.mi_text.specs.Maps.{Map}
use Rattle.mi_image.specs.Items.{machine_over}
use Rattle.mi_schema.specs.RowsOf.{behind}
use Rattle.mi_components.specs.Actions.{choice_kept}
use Rattle.mi_components.proofs.acting.choices_of.Given as goal

abbrev pub invariant-loop-row : goal.invariant-loop-row
invariant-loop-row g l = (names files : Map (List ℕ))
    → l.choices.items ++ map (choice_kept (machine_over names files l.former) l.code.number (g.E.Env.lookups l.env) l.held) l.row-iterator
    ≡ map (choice_kept (machine_over names files l.former) l.code.number (g.E.Env.lookups l.env) l.held) (behind l.loaded.component.entries)
