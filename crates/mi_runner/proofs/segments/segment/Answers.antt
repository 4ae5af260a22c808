use Rattle.std.proofs.Common.{refl}
use Rattle.std.proofs.lemmas.Result.{err_from_is_err_and}
use Rattle.mi_runner.proofs.SegmentLemmas.{untouched_carries, untouched_room, still_no_longer, all_but_one}
use Rattle.mi_runner.proofs.segments.segment.Goals as goal

pub returns-in_err-names-clause-carries : goal.returns-in_err-names-clause-carries
returns-in_err-names-clause-carries g c = λ t F w.
    let p = err_from_is_err_and c.from_residual.result c.from_residual.ensures.1 in
    rw p.1 (untouched_carries (g.V.Volume.state c.args.area.now.vol.now) c.args.area.now.kept F c.args.script.now _ w)

pub returns-in_err-names-clause-room : goal.returns-in_err-names-clause-room
returns-in_err-names-clause-room g c = λ t F n w takes. untouched_room (g.V.Volume.state c.args.area.now.vol.now) F n _ takes

pub returns-in_err-carry_out-clause-carries : goal.returns-in_err-carry_out-clause-carries
returns-in_err-carry_out-clause-carries g c =
    let p = err_from_is_err_and c.from_residual-in_err-carry_out.result c.from_residual-in_err-carry_out.ensures.1 in
    rw (p.1, p.2) c.in_err-carry_out.ensures.carries

pub returns-in_err-carry_out-clause-fault : goal.returns-in_err-carry_out-clause-fault
returns-in_err-carry_out-clause-fault g c =
    let p = err_from_is_err_and c.from_residual-in_err-carry_out.result c.from_residual-in_err-carry_out.ensures.1 in
    rw (p.1, p.2) c.in_err-carry_out.ensures.fault

pub returns-in_err-carry_out-clause-full : goal.returns-in_err-carry_out-clause-full
returns-in_err-carry_out-clause-full g c =
    let p = err_from_is_err_and c.from_residual-in_err-carry_out.result c.from_residual-in_err-carry_out.ensures.1 in
    rw (p.1, p.2) c.in_err-carry_out.ensures.full

pub returns-in_err-carry_out-clause-source_fault : goal.returns-in_err-carry_out-clause-source_fault
returns-in_err-carry_out-clause-source_fault g c =
    let p = err_from_is_err_and c.from_residual-in_err-carry_out.result c.from_residual-in_err-carry_out.ensures.1 in
    rw (p.1, p.2) c.in_err-carry_out.ensures.reads.rose

pub returns-in_err-carry_out-clause-differs : goal.returns-in_err-carry_out-clause-differs
returns-in_err-carry_out-clause-differs g c =
    let p = err_from_is_err_and c.from_residual-in_err-carry_out.result c.from_residual-in_err-carry_out.ensures.1 in
    rw (p.1, p.2) c.in_err-carry_out.ensures.differs.other

pub returns-in_err-carry_out-clause-stated : goal.returns-in_err-carry_out-clause-stated
returns-in_err-carry_out-clause-stated g c =
    let p = err_from_is_err_and c.from_residual-in_err-carry_out.result c.from_residual-in_err-carry_out.ensures.1 in
    rw (p.1, p.2) c.in_err-carry_out.ensures.differs.states

pub returns-in_err-carry_out-clause-untold : goal.returns-in_err-carry_out-clause-untold
returns-in_err-carry_out-clause-untold g c =
    let p = err_from_is_err_and c.from_residual-in_err-carry_out.result c.from_residual-in_err-carry_out.ensures.1 in
    rw (p.1, p.2) c.in_err-carry_out.ensures.differs.untold

pub returns-in_err-carry_out-clause-source_stays : goal.returns-in_err-carry_out-clause-source_stays
returns-in_err-carry_out-clause-source_stays g c = c.in_err-carry_out.ensures.reads.stays

pub returns-in_err-carry_out-clause-source_counts : goal.returns-in_err-carry_out-clause-source_counts
returns-in_err-carry_out-clause-source_counts g c = c.in_err-carry_out.ensures.reads.counts

pub returns-clause-carries : goal.returns-clause-carries
returns-clause-carries g c = c.in_ok-carry_out.ensures.carries

pub returns-clause-source_stays : goal.returns-clause-source_stays
returns-clause-source_stays g c = c.in_ok-carry_out.ensures.reads.stays

pub returns-clause-source_counts : goal.returns-clause-source_counts
returns-clause-source_counts g c = c.in_ok-carry_out.ensures.reads.counts

pub returns-in_err-names-clause-longest : goal.returns-in_err-names-clause-longest
returns-in_err-names-clause-longest g c = λ t F w not_failed. still_no_longer _ _ c.args.script.now refl

pub returns-in_err-names-clause-longest_but_one : goal.returns-in_err-names-clause-longest_but_one
returns-in_err-names-clause-longest_but_one g c = λ t F w. all_but_one _ _ c.args.script.now (still_no_longer _ _ c.args.script.now refl)

pub returns-in_err-carry_out-clause-longest : goal.returns-in_err-carry_out-clause-longest
returns-in_err-carry_out-clause-longest g c =
    let p = err_from_is_err_and c.from_residual-in_err-carry_out.result c.from_residual-in_err-carry_out.ensures.1 in
    rw (p.1, p.2) c.in_err-carry_out.ensures.longest
