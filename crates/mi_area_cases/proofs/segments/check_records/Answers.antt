use Rattle.mi_area_cases.proofs.SegmentLemmas.{one_more}
use Rattle.mi_area_cases.proofs.segments.check_records.Goals as goal

pub loop-rec-preserved : goal.loop-rec-preserved
loop-rec-preserved c = one_more c.args.recs.now c.loop-rec.rec-index c.rec-item.result c.loop-rec-test.true c.rec-item.is c.loop-rec.invariant c.in_ok-check_record.ensures
