-- From the last row to the first.
use Rattle.mi_schema.specs.declared.typed_rows.FileRow.{FileRow}
use Rattle.mi_schema.specs.RowsOf.{rows_in}
use Rattle.mi_world.specs.Places.{kept_path, AreKeptPaths}
use Rattle.mi_world.proofs.RowLemmas.{told_start, below, at_end}
use Rattle.mi_world.proofs.placed.files_of.Goals as goal

pub loop-place-init : goal.loop-place-init
unfolding rows_in
loop-place-init c = told_start (λ (r : FileRow). r.file) (kept_path c.args.directories.now c.args.dirs.now) c.args.loaded.now.file.entries c.len-place.result c.new-files.result c.len-place.ensures.len c.new-files.ensures

pub loop-place-preserved : goal.loop-place-preserved
loop-place-preserved c = c.in_ok-tell_path.ensures (below (λ n. AreKeptPaths c.args.directories.now c.args.dirs.now (rows_in c.args.loaded.now).file n c.loop-place.files) c.loop-place.place c.loop-place-test.true c.loop-place.invariant)

pub returns : goal.returns
returns c = at_end (λ n. AreKeptPaths c.args.directories.now c.args.dirs.now (rows_in c.args.loaded.now).file n c.loop-place.files) c.loop-place.place c.loop-place-test.false c.loop-place.invariant
