use Rattle.std.proofs.Common.{◌≡◌, take, All}
use Rattle.std.specs.List.{filter_map}
use Rattle.mi_dirs.specs.Views.{IsFolder}
use Rattle.mi_schema.specs.RowsOf.{rows_in}
use Rattle.mi_world.specs.Recall.{folder_row}
use Rattle.mi_world.proofs.recall.told_folders.Given as goal

abbrev pub invariant-loop-place : goal.invariant-loop-place
invariant-loop-place l = (l.folders.items ≡ filter_map (folder_row l.table) (take l.place (rows_in l.loaded).directory)) × All (λ e. IsFolder e.1) l.folders.items
