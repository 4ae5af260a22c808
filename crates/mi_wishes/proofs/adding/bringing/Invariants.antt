use Rattle.std.proofs.Common.{◌≡◌, ◌++◌, map}
use Rattle.mi_wishes.specs.Brought.{is_bringing}
use Rattle.mi_schema.specs.RowsOf.{behind}
use Rattle.mi_wishes.proofs.adding.bringing.Given as goal

abbrev pub invariant-loop-row : goal.invariant-loop-row
invariant-loop-row l = l.marks.items ++ map (is_bringing l.wishes l.list) l.row-iterator ≡ map (is_bringing l.wishes l.list) (behind l.loaded.feature.entries)
