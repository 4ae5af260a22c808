use Rattle.std.proofs.Common.{◌≡◌, drop}
use Rattle.std.specs.Prelude.{find}
use Rattle.mi_schema.specs.RowsOf.{rows_in}
use Rattle.mi_wishes.specs.Lists.{is_unknown}
use Rattle.mi_wishes.proofs.list.first_unknown.Given as goal

abbrev pub invariant-loop-item : goal.invariant-loop-item
invariant-loop-item l = find (is_unknown (rows_in l.loaded)) (drop l.item-index l.items) ≡ find (is_unknown (rows_in l.loaded)) l.items
