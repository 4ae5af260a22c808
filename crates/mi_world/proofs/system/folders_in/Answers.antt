use Rattle.mi_world.proofs.SystemLemmas.{folders_more}
use Rattle.mi_world.proofs.system.folders_in.Goals as goal

pub loop-pair-preserved : goal.loop-pair-preserved
loop-pair-preserved c =
    folders_more c.args.pairs.now c.loop-pair.pair-index c.pair-item.result c.as_str.result.now c.loop-pair.folders.items c.push_folder.new.folders.items c.loop-pair-test.true c.pair-item.is c.as_str.ensures c.in_ok-push_folder.ensures c.loop-pair.invariant
