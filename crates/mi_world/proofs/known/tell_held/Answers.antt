-- The row at the place, if there is one.
use Rattle.std.proofs.Common.{sym}
use Rattle.mi_schema.specs.RowsOf.{rows_in}
use Rattle.mi_world.proofs.RowLemmas.{held_more, held_none}
use Rattle.mi_world.proofs.known.tell_held.Goals as goal

pub returns-in_ok-hold-in-Some : goal.returns-in_ok-hold-in-Some
returns-in_ok-hold-in-Some c = held_more (rows_in c.args.loaded.now).feature_components c.args.place c.args.names.now c.args.held.now c.hold.new.held c.in-Some.row.now (sym c.in-Some.ensures) c.in_ok-hold-in-Some.ensures

pub returns-in-None : goal.returns-in-None
returns-in-None c = held_none (rows_in c.args.loaded.now).feature_components c.args.place c.args.names.now c.args.held.now (sym c.in-None.ensures)
