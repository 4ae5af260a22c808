-- The row at the place, if there is one.
use Rattle.std.proofs.Common.{sym}
use Rattle.mi_schema.specs.RowsOf.{rows_in}
use Rattle.mi_world.proofs.RecallLemmas.{ordered_more, ordered_none}
use Rattle.mi_world.proofs.recall.put_at.Goals as goal

pub returns-in_ok-insert-in-Some : goal.returns-in_ok-insert-in-Some
returns-in_ok-insert-in-Some c = ordered_more (rows_in c.args.loaded.now).component c.args.place c.args.rows.now.entries c.insert.new.self.entries c.as_str.result c.in-Some.row (sym c.in-Some.ensures) c.as_str.ensures c.in_ok-insert-in-Some.ensures.entries

pub returns-in-None : goal.returns-in-None
returns-in-None c = ordered_none (rows_in c.args.loaded.now).component c.args.place c.args.rows.now.entries (sym c.in-None.ensures)
