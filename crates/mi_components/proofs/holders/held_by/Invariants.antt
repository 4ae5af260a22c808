use Rattle.std.proofs.Common.{◌≡◌}
use Rattle.mi_text.specs.Maps.{Name}
use Rattle.mi_schema.specs.RowsOf.{rows_in}
use Rattle.mi_components.specs.Holders.{both, held_at, all_say}
use Rattle.mi_components.proofs.holders.held_by.Given as goal

abbrev pub invariant-loop-row : goal.invariant-loop-row
invariant-loop-row l = (q : Name) → both (held_at l.held q) (all_say (rows_in l.loaded).feature l.asked.features.items l.recorded l.row-iterator q)
    ≡ all_say (rows_in l.loaded).feature l.asked.features.items l.recorded (rows_in l.loaded).feature_components q
