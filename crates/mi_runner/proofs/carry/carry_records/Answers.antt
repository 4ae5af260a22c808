use Rattle.std.proofs.Common.{◌≡◌, [], refl, ◌∙◌, ap, sym, subst, arith, Err, Contains}
use Rattle.std.proofs.lemmas.Result.{err_from_is_err_and}
use Rattle.mi_undo.specs.Area.{noted_names}
use Rattle.mi_script.specs.Scripts.{name_at}
use Rattle.mi_source.specs.Paths.{Files}
use Rattle.mi_runner.specs.declared.fault.RunFault.TheVariants as run
use Rattle.mi_runner.specs.Records.{MayCarry, HasLength}
use Rattle.mi_runner.proofs.RecordLemmas.{after_one, at_item, noted_outside}
use Rattle.mi_runner.proofs.StepLemmas.{noted_still, working_live}
use Rattle.mi_runner.proofs.FaultLemmas.{reads_then, reads_ok, differs_in, ok_differs, one_error}
use Rattle.mi_runner.proofs.CarryLemmas.{carried_starts, carried_more, carried_all, failed_keeps, failed_others, failed_longest, failed_rose, failed_full}
use Rattle.mi_runner.proofs.carry.carry_records.Goals as goal

pub loop-rec-init : goal.loop-rec-init
loop-rec-init g c = record {
  carried = carried_starts g.V.Volume.told g.V.Volume.state g.S.Source.told (g.S.Source.files c.args.src.now) c.args.area.now c.requires.working;
  stays = refl;
  counts = omega arith;
}

pub carry_record-requires-clause-working : goal.carry_record-requires-clause-working
carry_record-requires-clause-working g c = c.loop-rec.invariant.carried.working

pub carry_record-requires-clause-noted : goal.carry_record-requires-clause-noted
carry_record-requires-clause-noted g c =
    noted_still g.V.Volume.told g.V.Volume.state c.args.area.now c.loop-rec.area (name_at c.rec-item.result) c.loop-rec.invariant.carried.keeps.kept
    (at_item (λ r. Contains (noted_names c.args.area.now) (name_at r)) c.args.recs.now c.loop-rec.rec-index c.rec-item.result c.requires.noted c.loop-rec-test.true c.rec-item.is)

pub carry_record-requires-clause-record : goal.carry_record-requires-clause-record
carry_record-requires-clause-record g c = at_item MayCarry c.args.recs.now c.loop-rec.rec-index c.rec-item.result c.requires.records c.loop-rec-test.true c.rec-item.is

pub carry_record-requires-clause-there : goal.carry_record-requires-clause-there
carry_record-requires-clause-there g c = λ s.
    subst (λ (f : Files). HasLength f c.rec-item.result) (sym c.loop-rec.invariant.stays)
    (at_item (HasLength (g.S.Source.files c.args.src.now)) c.args.recs.now c.loop-rec.rec-index c.rec-item.result (c.requires.there s) c.loop-rec-test.true c.rec-item.is)

pub returns-in_err-carry_record-clause-keeps : goal.returns-in_err-carry_record-clause-keeps
returns-in_err-carry_record-clause-keeps g c = failed_keeps g.V.Volume.told g.V.Volume.state g.S.Source.told (g.S.Source.files c.args.src.now) c.args.area.now c.loop-rec.area c.carry_record.new.area c.args.recs.now c.loop-rec.rec-index c.rec-item.result c.loop-rec-test.true c.rec-item.is c.loop-rec.invariant.carried c.in_err-carry_record.field-0.0 c.in_err-carry_record.ensures.writes

pub returns-in_err-carry_record-clause-live : goal.returns-in_err-carry_record-clause-live
returns-in_err-carry_record-clause-live g c = c.in_err-carry_record.ensures.writes.live

pub returns-in_err-carry_record-clause-longest : goal.returns-in_err-carry_record-clause-longest
returns-in_err-carry_record-clause-longest g c =
    let p = err_from_is_err_and c.from_residual.result c.from_residual.ensures.1 in
    rw (p.1, p.2) (λ t not_failed q. failed_longest g.V.Volume.told g.V.Volume.state g.S.Source.told (g.S.Source.files c.args.src.now) c.args.area.now c.loop-rec.area c.carry_record.new.area c.args.recs.now c.loop-rec.rec-index c.rec-item.result c.loop-rec-test.true c.rec-item.is c.loop-rec.invariant.carried c.in_err-carry_record.field-0.0 c.in_err-carry_record.ensures.writes t (λ is. not_failed (ap Err is)) q)

pub returns-in_err-carry_record-clause-longest_others : goal.returns-in_err-carry_record-clause-longest_others
returns-in_err-carry_record-clause-longest_others g c = λ t. (name_at c.rec-item.result, λ q ne. failed_others g.V.Volume.told g.V.Volume.state g.S.Source.told (g.S.Source.files c.args.src.now) c.args.area.now c.loop-rec.area c.carry_record.new.area c.args.recs.now c.loop-rec.rec-index c.rec-item.result c.loop-rec-test.true c.rec-item.is c.loop-rec.invariant.carried c.in_err-carry_record.field-0.0 c.in_err-carry_record.ensures.writes t q ne)

pub loop-rec-preserved : goal.loop-rec-preserved
loop-rec-preserved g c =
    let item = at_item MayCarry c.args.recs.now c.loop-rec.rec-index c.rec-item.result c.requires.records c.loop-rec-test.true c.rec-item.is in
    let noted = at_item (λ r. Contains (noted_names c.args.area.now) (name_at r)) c.args.recs.now c.loop-rec.rec-index c.rec-item.result c.requires.noted c.loop-rec-test.true c.rec-item.is in
    let e = c.in_ok-carry_record.ensures in
    record {
      carried = carried_more g.V.Volume.told g.V.Volume.state g.S.Source.told (g.S.Source.files c.args.src.now) c.args.area.now c.loop-rec.area c.carry_record.new.area c.args.recs.now c.loop-rec.rec-index c.rec-item.result c.loop-rec-test.true c.rec-item.is c.loop-rec.invariant.carried _
          item (noted_outside _ (name_at c.rec-item.result) c.requires.working.outside noted) e.writes
          (λ t s. subst (λ (f : Files). (g.V.Volume.state c.carry_record.new.area.vol.now).held ≡ after_one f (g.V.Volume.state c.loop-rec.area.vol.now).held c.rec-item.result) c.loop-rec.invariant.stays (e.map t s));
      stays = e.reads.stays ∙ c.loop-rec.invariant.stays;
      counts = let more = e.reads.counts in omega (arith, more, c.loop-rec.invariant.counts);
    }

pub returns-in_err-carry_record-clause-rose : goal.returns-in_err-carry_record-clause-rose
returns-in_err-carry_record-clause-rose g c =
    let p = err_from_is_err_and c.from_residual.result c.from_residual.ensures.1 in
    rw (p.1, p.2) (λ is. failed_rose g.V.Volume.told g.V.Volume.state g.S.Source.told (g.S.Source.files c.args.src.now) c.args.area.now c.loop-rec.area c.carry_record.new.area c.args.recs.now c.loop-rec.rec-index c.rec-item.result c.loop-rec-test.true c.rec-item.is c.loop-rec.invariant.carried c.in_err-carry_record.field-0.0 c.in_err-carry_record.ensures.writes (one_error c.in_err-carry_record.field-0.0 run.Volume is))

pub returns-in_err-carry_record-clause-full : goal.returns-in_err-carry_record-clause-full
returns-in_err-carry_record-clause-full g c =
    let p = err_from_is_err_and c.from_residual.result c.from_residual.ensures.1 in
    rw (p.1, p.2) (λ is. failed_full g.V.Volume.told g.V.Volume.state g.S.Source.told (g.S.Source.files c.args.src.now) c.args.area.now c.loop-rec.area c.carry_record.new.area c.args.recs.now c.loop-rec.rec-index c.rec-item.result c.loop-rec-test.true c.rec-item.is c.loop-rec.invariant.carried c.in_err-carry_record.field-0.0 c.requires.outside c.in_err-carry_record.ensures.writes (one_error c.in_err-carry_record.field-0.0 run.Full is))

pub returns-in_err-carry_record-clause-reads : goal.returns-in_err-carry_record-clause-reads
returns-in_err-carry_record-clause-reads g c =
    let p = err_from_is_err_and c.from_residual.result c.from_residual.ensures.1 in
    rw (p.1, p.2) (reads_then g.S.Source.files g.S.Source.faults c.args.src.now c.loop-rec.src c.carry_record.new.src c.in_err-carry_record.field-0.0 c.loop-rec.invariant.stays c.loop-rec.invariant.counts c.in_err-carry_record.ensures.reads)

pub returns-in_err-carry_record-clause-differs : goal.returns-in_err-carry_record-clause-differs
returns-in_err-carry_record-clause-differs g c =
    let p = err_from_is_err_and c.from_residual.result c.from_residual.ensures.1 in
    rw (p.1, p.2) (differs_in c.args.recs.now c.loop-rec.rec-index c.rec-item.result c.in_err-carry_record.field-0.0 c.loop-rec-test.true c.rec-item.is c.in_err-carry_record.ensures.differs)

pub returns-clause-keeps : goal.returns-clause-keeps
returns-clause-keeps g c = (carried_all g.V.Volume.told g.V.Volume.state g.S.Source.told (g.S.Source.files c.args.src.now) c.args.area.now c.loop-rec.area c.args.recs.now c.loop-rec.rec-index c.loop-rec-test.false c.loop-rec.invariant.carried).keeps

pub returns-clause-live : goal.returns-clause-live
returns-clause-live g c = working_live g.V.Volume.told g.V.Volume.state c.loop-rec.area c.loop-rec.invariant.carried.working

pub returns-clause-working : goal.returns-clause-working
returns-clause-working g c = c.loop-rec.invariant.carried.working

pub returns-clause-map : goal.returns-clause-map
returns-clause-map g c = λ t s. (carried_all g.V.Volume.told g.V.Volume.state g.S.Source.told (g.S.Source.files c.args.src.now) c.args.area.now c.loop-rec.area c.args.recs.now c.loop-rec.rec-index c.loop-rec-test.false c.loop-rec.invariant.carried).made t s

pub returns-clause-longest : goal.returns-clause-longest
returns-clause-longest g c = λ t ok q. (carried_all g.V.Volume.told g.V.Volume.state g.S.Source.told (g.S.Source.files c.args.src.now) c.args.area.now c.loop-rec.area c.args.recs.now c.loop-rec.rec-index c.loop-rec-test.false c.loop-rec.invariant.carried).longest t q

pub returns-clause-longest_others : goal.returns-clause-longest_others
returns-clause-longest_others g c = λ t. ([], λ q ne. (carried_all g.V.Volume.told g.V.Volume.state g.S.Source.told (g.S.Source.files c.args.src.now) c.args.area.now c.loop-rec.area c.args.recs.now c.loop-rec.rec-index c.loop-rec-test.false c.loop-rec.invariant.carried).longest t q)

pub returns-clause-reads : goal.returns-clause-reads
returns-clause-reads g c = reads_ok g.S.Source.files g.S.Source.faults c.args.src.now c.loop-rec.src _ c.loop-rec.invariant.stays c.loop-rec.invariant.counts

pub returns-clause-differs : goal.returns-clause-differs
returns-clause-differs g c = ok_differs c.args.recs.now _
