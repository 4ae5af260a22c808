-- From the last row to the first.
use Rattle.mi_schema.specs.RowsOf.{behind}
use Rattle.mi_records.proofs.OrderLemmas.{ordered_below, ordered_end}
use Rattle.mi_files.specs.Folders.{key_of}
use Rattle.mi_files.proofs.KeyedLemmas.{ordered_start}
use Rattle.mi_files.proofs.order.ordered.Goals as goal

pub loop-place-init : goal.loop-place-init
loop-place-init c = ordered_start c.args.rows.now.entries c.len-place.result c.new-ordered.result.entries c.len-place.ensures.len c.new-ordered.ensures.empty

pub loop-place-preserved : goal.loop-place-preserved
loop-place-preserved c = c.in_ok-put.ensures (ordered_below key_of (behind c.args.rows.now.entries) c.loop-place.place c.loop-place.ordered.entries c.loop-place-test.true c.loop-place.invariant)

pub returns : goal.returns
returns c = ordered_end key_of (behind c.args.rows.now.entries) c.loop-place.place c.loop-place.ordered.entries c.loop-place-test.false c.loop-place.invariant
