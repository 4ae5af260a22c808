-- From the last row to the first.
use Rattle.mi_schema.specs.declared.typed_rows.ComponentRow.{ComponentRow}
use Rattle.mi_schema.specs.RowsOf.{rows_in}
use Rattle.mi_world.specs.Known.{AreDirectories}
use Rattle.mi_world.proofs.RowLemmas.{told_start, below, at_end}
use Rattle.mi_world.proofs.known.directories_of.Goals as goal

pub loop-place-init : goal.loop-place-init
unfolding rows_in
loop-place-init c = told_start (λ (r : ComponentRow). r.component) (λ r. r.directory) c.args.loaded.now.component.entries c.len-place.result c.new-table.result c.len-place.ensures.len c.new-table.ensures

pub loop-place-preserved : goal.loop-place-preserved
loop-place-preserved c = c.in_ok-tell_directory.ensures (below (λ n. AreDirectories (rows_in c.args.loaded.now).component n c.loop-place.table) c.loop-place.place c.loop-place-test.true c.loop-place.invariant)

pub returns : goal.returns
returns c = at_end (λ n. AreDirectories (rows_in c.args.loaded.now).component n c.loop-place.table) c.loop-place.place c.loop-place-test.false c.loop-place.invariant
