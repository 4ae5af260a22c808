use Rattle.std.proofs.Common.{◌≡◌, map, take}
use Rattle.mi_schema.specs.RowsOf.{rows_in}
use Rattle.mi_installs.specs.declared.placed.Placed.{Placed}
use Rattle.mi_installs.specs.Leads.{written_in}
use Rattle.mi_installs.proofs.leaders.of_rows.Given as goal

abbrev pub invariant-loop-placed : goal.invariant-loop-placed
invariant-loop-placed l = l.all.items ≡ map (λ (p : Placed). written_in (rows_in l.loaded).file l.written p.row.now.file) (take l.placed-index l.rows)
