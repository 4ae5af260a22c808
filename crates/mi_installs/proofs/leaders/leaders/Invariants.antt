use Rattle.std.proofs.Common.{◌≡◌, ◌++◌, map}
use Rattle.mi_schema.specs.RowsOf.{rows_in}
use Rattle.mi_installs.specs.Leads.{leader_place}
use Rattle.mi_installs.proofs.leaders.leaders.Given as goal

abbrev pub invariant-loop-row : goal.invariant-loop-row
invariant-loop-row l = l.leaders.items ++ map (leader_place (rows_in l.loaded).file) l.row-iterator ≡ map (leader_place (rows_in l.loaded).file) (rows_in l.loaded).file
