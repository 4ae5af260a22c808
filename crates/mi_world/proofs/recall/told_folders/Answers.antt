-- One row more, and all of them.
use Rattle.std.proofs.Common.{◌≡◌, length, arith}
use Rattle.std.proofs.lemmas.List.{length-map}
use Rattle.mi_schema.specs.RowsOf.{rows_in}
use Rattle.mi_world.specs.Recall.{folder_row}
use Rattle.mi_world.proofs.RecallLemmas.{filter_behind, filter_all_behind}
use Rattle.mi_world.proofs.recall.told_folders.Goals as goal

pub loop-place-preserved : goal.loop-place-preserved
loop-place-preserved c = (
  filter_behind (folder_row c.args.table.now) (rows_in c.args.loaded.now).directory c.loop-place.place c.loop-place.folders.items c.remember_at.new.folders.items c.in_ok-remember_at.ensures.row c.loop-place.invariant.0,
  c.in_ok-remember_at.ensures.folders c.loop-place.invariant.1,
)

pub returns-clause-told : goal.returns-clause-told
unfolding rows_in
returns-clause-told c =
    let rows = (rows_in c.args.loaded.now).directory in
    let size : length rows ≡ length c.args.loaded.now.directory.entries = length-map c.args.loaded.now.directory.entries (λ e. e.1) in
    filter_all_behind (folder_row c.args.table.now) rows c.loop-place.place c.loop-place.folders.items (omega (arith, size, c.len-place-end.ensures.len, c.loop-place-test.false)) c.loop-place.invariant.0
