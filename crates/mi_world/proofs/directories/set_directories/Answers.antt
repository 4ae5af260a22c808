-- From the last row to the first.
use Rattle.mi_schema.specs.RowsOf.{rows_in}
use Rattle.mi_model.specs.Properties.{with_directories}
use Rattle.mi_world.specs.Directories.{HasDirectories}
use Rattle.mi_world.proofs.RowLemmas.{below, at_end}
use Rattle.mi_world.proofs.DirectoryLemmas.{has_start}
use Rattle.mi_world.proofs.directories.set_directories.Goals as goal

pub loop-place-init : goal.loop-place-init
unfolding rows_in
loop-place-init c = has_start c.args.loaded.now.directory.entries c.len-place.result c.args.dirs.now c.args.props.now c.len-place.ensures.len

pub loop-place-preserved : goal.loop-place-preserved
loop-place-preserved c = c.in_ok-set_at.ensures c.args.props.now (below (λ n. HasDirectories (rows_in c.args.loaded.now).directory c.args.dirs.now c.args.props.now n c.loop-place.props) c.loop-place.place c.loop-place-test.true c.loop-place.invariant)

pub returns : goal.returns
unfolding with_directories
returns c = at_end (λ n. HasDirectories (rows_in c.args.loaded.now).directory c.args.dirs.now c.args.props.now n c.loop-place.props) c.loop-place.place c.loop-place-test.false c.loop-place.invariant
