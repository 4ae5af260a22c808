-- The row at the place, if there is one.
use Rattle.std.proofs.Common.{sym}
use Rattle.mi_schema.specs.RowsOf.{rows_in}
use Rattle.mi_world.proofs.DirectoryLemmas.{has_more, has_none}
use Rattle.mi_world.proofs.directories.set_at.Goals as goal

pub returns-in_ok-set_row-in-Some : goal.returns-in_ok-set_row-in-Some
returns-in_ok-set_row-in-Some c = λ before. has_more (rows_in c.args.loaded.now).directory c.args.place c.args.dirs.now before c.args.props.now c.set_row.new.props c.in-Some.row.now (sym c.in-Some.ensures) c.in_ok-set_row-in-Some.ensures

pub returns-in-None : goal.returns-in-None
returns-in-None c = λ before. has_none (rows_in c.args.loaded.now).directory c.args.place c.args.dirs.now before c.args.props.now (sym c.in-None.ensures)
