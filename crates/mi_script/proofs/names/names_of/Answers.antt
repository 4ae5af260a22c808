use Rattle.mi_script.proofs.TouchedLemmas.{one_record}
use Rattle.std.proofs.Common.{◌∙◌}
use Rattle.mi_script.proofs.names.names_of.Goals as goal

pub loop-rec-preserved : goal.loop-rec-preserved
loop-rec-preserved c = one_record c.loop-rec.names c.insert.new.self c.args.recs.now c.loop-rec.rec-index c.rec-item.result c.in_ok-name.name c.loop-rec-test.true c.rec-item.is (c.in_ok-name.ensures ∙ c.name.ensures) c.in_ok-insert.ensures.updates c.loop-rec.invariant
