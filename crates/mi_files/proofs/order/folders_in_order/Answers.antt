-- The rows of the tree.
use Rattle.mi_schema.specs.RowsOf.{behind, rows_in}
use Rattle.mi_records.proofs.OrderLemmas.{ordered_all}
use Rattle.mi_files.specs.Folders.{key_of}
use Rattle.mi_files.proofs.order.folders_in_order.Goals as goal

pub returns : goal.returns
unfolding rows_in
returns c = ordered_all key_of (behind c.args.loaded.now.create_folder.entries) c.in_ok-ordered.ordered.entries c.in_ok-rows.rows.items c.in_ok-ordered.ensures c.in_ok-rows.ensures
