-- From the last row to the first.
use Rattle.std.proofs.Common.{arith}
use Rattle.mi_image.specs.Items.{machine_over}
use Rattle.mi_world.proofs.RecallLemmas.{told_start, told_step}
use Rattle.mi_world.proofs.recall.told_paths.Goals as goal

pub loop-place-init : goal.loop-place-init
loop-place-init c = ((λ held files. told_start (machine_over held files c.args.image.now) c.args.code.number c.args.rows.now c.new-table.result c.new-table.ensures), omega arith)

pub loop-place-preserved : goal.loop-place-preserved
loop-place-preserved c = (
  (λ held files. told_step (machine_over held files c.args.image.now) c.args.code.number c.args.rows.now c.loop-place.place c.index-rows-place.result c.loop-place.table c.tell.new.table c.loop-place-test.true c.loop-place.invariant.1 c.index-rows-place.is
      (c.in_ok-tell.ensures held files) (c.loop-place.invariant.0 held files)),
  omega (arith, c.loop-place.invariant.1),
)
