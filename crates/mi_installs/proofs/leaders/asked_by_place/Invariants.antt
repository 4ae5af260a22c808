use Rattle.std.proofs.Common.{◌≡◌, drop, length}
use Rattle.mi_schema.specs.RowsOf.{rows_in}
use Rattle.mi_installs.specs.declared.placed.Placed.{Placed}
use Rattle.mi_installs.specs.Leads.{place_of, all_noted, asked_of}
use Rattle.mi_installs.proofs.leaders.asked_by_place.Given as goal

abbrev pub invariant-loop-i : goal.invariant-loop-i
invariant-loop-i l = record {
  size : length l.asked.items ≡ length (rows_in l.loaded).file;
  rest : all_noted (λ (p : Placed). place_of (rows_in l.loaded).file p.row.now.file) l.asked.items (drop l.i l.rows) (drop l.i l.called) ≡ asked_of (rows_in l.loaded).file l.rows l.called;
}
