use Rattle.std.proofs.Common.{◌≡◌, ◌+◌, length, take, drop, refl, ◌∙◌, ap, arith}
use Rattle.std.proofs.lemmas.Result.{err_from_is_err_and}
use Rattle.std.specs.FinMap.{get}
use Rattle.mi_source.specs.Paths.{Files, bytes_or_none}
use Rattle.mi_runner.specs.declared.fault.RunFault.TheVariants as run
use Rattle.mi_runner.specs.Faults.{read_fault_of}
use Rattle.mi_runner.proofs.RecordLemmas.{noted_outside}
use Rattle.mi_runner.proofs.StepLemmas.{held_is, working_live, noted_still, writes_ok, writes_then, write_failed, as_run, source_failed}
use Rattle.mi_runner.proofs.FaultLemmas.{read_is, never_read, never_op, reads_failed, reads_op}
use Rattle.mi_runner.proofs.AppendLemmas.{added_small, added_within, filling_starts, filling_more, filling_short, filling_done, filled, filling_same}
use Rattle.mi_runner.proofs.files.append_file.Goals as goal

pub loop-at-init : goal.loop-at-init
loop-at-init g c = record {
  filling = filling_starts g.V.Volume.told g.V.Volume.state g.S.Source.told c.args.area.now c.args.name.now _ c.args.stated c.requires.working;
  stays = refl;
  counts = omega arith;
}

pub returns-in_err-bytes-clause-writes : goal.returns-in_err-bytes-clause-writes
returns-in_err-bytes-clause-writes g c = λ before is.
    let p = err_from_is_err_and c.from_residual.result c.from_residual.ensures.1 in
    let so_far = c.loop-at.invariant.filling in
    let few = so_far.few in
    let within = so_far.within in
    rw (p.1, p.2) (source_failed g.V.Volume.told g.V.Volume.state c.args.area.now c.loop-at.area c.args.name.now (length c.args.name.now + (length before + c.args.stated)) (read_fault_of c.in_err-bytes.field-0.0) (read_is c.in_err-bytes.field-0.0) so_far.keeps
    (working_live g.V.Volume.told g.V.Volume.state c.loop-at.area so_far.working)
    (added_within g.V.Volume.told g.V.Volume.state c.args.area.now c.loop-at.area c.args.name.now so_far.bytes before c.args.stated so_far.added is (omega (arith, few, within))))

pub returns-in_err-bytes-clause-reads : goal.returns-in_err-bytes-clause-reads
returns-in_err-bytes-clause-reads g c =
    let p = err_from_is_err_and c.from_residual.result c.from_residual.ensures.1 in
    rw (p.1, p.2) (reads_failed g.S.Source.files g.S.Source.faults c.args.src.now c.loop-at.src c.read.new.self c.in_err-bytes.field-0.0 c.loop-at.invariant.stays c.loop-at.invariant.counts c.read.ensures.stays c.read.ensures.counts c.in_err-bytes.ensures.failed)

pub returns-in_err-bytes-clause-never : goal.returns-in_err-bytes-clause-never
returns-in_err-bytes-clause-never g c =
    let p = err_from_is_err_and c.from_residual.result c.from_residual.ensures.1 in
    rw (p.1, p.2) (never_read c.in_err-bytes.field-0.0)

pub append-requires-clause-working : goal.append-requires-clause-working
append-requires-clause-working g c = c.loop-at.invariant.filling.working

pub append-requires-clause-noted : goal.append-requires-clause-noted
append-requires-clause-noted g c = noted_still g.V.Volume.told g.V.Volume.state c.args.area.now c.loop-at.area c.args.name.now c.loop-at.invariant.filling.keeps.kept c.requires.noted

pub returns-in_err-append-clause-writes : goal.returns-in_err-append-clause-writes
returns-in_err-append-clause-writes g c = λ before is.
    let p = err_from_is_err_and c.from_residual-in_err-append.result c.from_residual-in_err-append.ensures.1 in
    let so_far = c.loop-at.invariant.filling in
    let few = so_far.few in
    let within = so_far.within in
    let a = c.in_err-append.ensures in
    let n = length c.args.name.now + (length before + c.args.stated) in
    let piece = ap length c.as_slice.ensures in
    rw (p.1, p.2) (writes_then g.V.Volume.told g.V.Volume.state c.args.area.now c.loop-at.area c.append.new.self c.args.name.now n run.Volume run.Full _ so_far.keeps
    (added_within g.V.Volume.told g.V.Volume.state c.args.area.now c.loop-at.area c.args.name.now so_far.bytes before c.args.stated so_far.added is (omega (arith, few, within)))
    (as_run g.V.Volume.told g.V.Volume.state {T = Unit {0}} c.loop-at.area c.append.new.self c.args.name.now n c.in_err-append.field-0.0
    (write_failed g.V.Volume.told g.V.Volume.state c.loop-at.area c.append.new.self c.args.name.now _ n c.in_err-append.field-0.0
    (record { reference = a.reference; kept = a.kept; changes = a.changes; room = a.room; others = a.others; passes = a.passes })
    a.live a.fault a.full
    (added_small g.V.Volume.told g.V.Volume.state c.args.area.now c.loop-at.area c.loop-at.area c.args.name.now so_far.bytes c.as_slice.result.now before c.args.stated so_far.added (λ t. refl) is
    (omega (arith, few, within, piece, c.in_ok-bytes.ensures.short, c.min-want.ensures, c.loop-at-test.true)))
    a.stays)))

pub returns-in_err-append-clause-reads : goal.returns-in_err-append-clause-reads
returns-in_err-append-clause-reads g c =
    let p = err_from_is_err_and c.from_residual-in_err-append.result c.from_residual-in_err-append.ensures.1 in
    let counts = c.read.ensures.counts in
    rw (p.1, p.2) (reads_op g.S.Source.files g.S.Source.faults c.args.src.now c.read.new.self c.in_err-append.field-0.0 (c.read.ensures.stays ∙ c.loop-at.invariant.stays) (omega (arith, counts, c.loop-at.invariant.counts)))

pub returns-in_err-append-clause-never : goal.returns-in_err-append-clause-never
returns-in_err-append-clause-never g c =
    let p = err_from_is_err_and c.from_residual-in_err-append.result c.from_residual-in_err-append.ensures.1 in
    rw (p.1, p.2) (never_op c.in_err-append.field-0.0)

pub returns-then-found-eq0-clause-writes : goal.returns-then-found-eq0-clause-writes
returns-then-found-eq0-clause-writes g c = λ before is.
    let so_far = c.loop-at.invariant.filling in
    let within = so_far.within in
    let a = c.in_ok-append.ensures in
    let piece = ap length c.as_slice.ensures in
    let next = filling_more g.V.Volume.told g.V.Volume.state g.S.Source.told c.args.area.now c.loop-at.area c.append.new.self c.args.name.now (bytes_or_none (get (g.S.Source.files c.args.src.now) c.args.path.now)) c.as_slice.result.now c.loop-at.at c.args.stated c.min-want.result so_far
    (omega (arith, within, piece, c.in_ok-bytes.ensures.short, c.min-want.ensures, c.loop-at-test.true))
    (λ s. c.as_slice.ensures ∙ c.in_ok-bytes.ensures.value s ∙ ap (λ (f : Files). take c.min-want.result (drop c.loop-at.at (bytes_or_none (get f c.args.path.now)))) c.loop-at.invariant.stays)
    (record { reference = a.reference; kept = a.kept; changes = a.changes; room = a.room; others = a.others; passes = a.passes }) a.working
    (λ t. held_is _ _ c.args.name.now _ (noted_outside _ c.args.name.now c.requires.working.outside c.requires.noted) (a.others t) (a.map t)) in
    let few = next.few in
    let high = next.within in
    writes_ok g.V.Volume.told g.V.Volume.state c.args.area.now c.append.new.self c.args.name.now (length c.args.name.now + (length before + c.args.stated)) run.Volume run.Full _ next.keeps next.working
    (added_within g.V.Volume.told g.V.Volume.state c.args.area.now c.append.new.self c.args.name.now next.bytes before c.args.stated next.added is (omega (arith, few, high)))

pub returns-then-found-eq0-clause-map : goal.returns-then-found-eq0-clause-map
returns-then-found-eq0-clause-map g c = λ t s before is.
    let so_far = c.loop-at.invariant.filling in
    let within = so_far.within in
    let a = c.in_ok-append.ensures in
    let piece = ap length c.as_slice.ensures in
    let file = bytes_or_none (get (g.S.Source.files c.args.src.now) c.args.path.now) in
    let read : g.S.Source.told → c.as_slice.result.now ≡ take c.min-want.result (drop c.loop-at.at (bytes_or_none (get (g.S.Source.files c.args.src.now) c.args.path.now))) =
    λ s. c.as_slice.ensures ∙ c.in_ok-bytes.ensures.value s ∙ ap (λ (f : Files). take c.min-want.result (drop c.loop-at.at (bytes_or_none (get f c.args.path.now)))) c.loop-at.invariant.stays in
    let next = filling_more g.V.Volume.told g.V.Volume.state g.S.Source.told c.args.area.now c.loop-at.area c.append.new.self c.args.name.now file c.as_slice.result.now c.loop-at.at c.args.stated c.min-want.result so_far
    (omega (arith, within, piece, c.in_ok-bytes.ensures.short, c.min-want.ensures, c.loop-at-test.true)) read
    (record { reference = a.reference; kept = a.kept; changes = a.changes; room = a.room; others = a.others; passes = a.passes }) a.working
    (λ t. held_is _ _ c.args.name.now _ (noted_outside _ c.args.name.now c.requires.working.outside c.requires.noted) (a.others t) (a.map t)) in
    filled g.V.Volume.told g.V.Volume.state g.S.Source.told c.args.area.now c.append.new.self c.args.name.now file (c.loop-at.at + length c.as_slice.result.now) c.args.stated next
    (λ s. (filling_short g.V.Volume.told g.V.Volume.state g.S.Source.told c.args.area.now c.append.new.self c.args.name.now file (c.loop-at.at + length c.as_slice.result.now) c.loop-at.at c.args.stated c.min-want.result (length c.as_slice.result.now) c.as_slice.result.now next refl refl (omega (arith, piece, c.if-found-eq0.true, c.min-want.ensures, c.loop-at-test.true)) read s).1)
    t s before is

pub loop-at-preserved : goal.loop-at-preserved
loop-at-preserved g c =
    let so_far = c.loop-at.invariant.filling in
    let within = so_far.within in
    let a = c.in_ok-append.ensures in
    let piece = ap length c.as_slice.ensures in
    record {
      filling = filling_same g.V.Volume.told g.V.Volume.state g.S.Source.told c.args.area.now c.append.new.self c.args.name.now (bytes_or_none (get (g.S.Source.files c.args.src.now) c.args.path.now)) c.as_slice.result.now c.loop-at.at c.args.stated (omega (arith, piece))
          (filling_more g.V.Volume.told g.V.Volume.state g.S.Source.told c.args.area.now c.loop-at.area c.append.new.self c.args.name.now (bytes_or_none (get (g.S.Source.files c.args.src.now) c.args.path.now)) c.as_slice.result.now c.loop-at.at c.args.stated c.min-want.result so_far
          (omega (arith, within, piece, c.in_ok-bytes.ensures.short, c.min-want.ensures, c.loop-at-test.true))
          (λ s. c.as_slice.ensures ∙ c.in_ok-bytes.ensures.value s ∙ ap (λ (f : Files). take c.min-want.result (drop c.loop-at.at (bytes_or_none (get f c.args.path.now)))) c.loop-at.invariant.stays)
          (record { reference = a.reference; kept = a.kept; changes = a.changes; room = a.room; others = a.others; passes = a.passes }) a.working
          (λ t. held_is _ _ c.args.name.now _ (noted_outside _ c.args.name.now c.requires.working.outside c.requires.noted) (a.others t) (a.map t)));
      stays = c.read.ensures.stays ∙ c.loop-at.invariant.stays;
      counts = let counts = c.read.ensures.counts in omega (arith, counts, c.loop-at.invariant.counts);
    }

pub returns-clause-writes : goal.returns-clause-writes
returns-clause-writes g c = λ before is.
    let so_far = c.loop-at.invariant.filling in
    let few = so_far.few in
    let within = so_far.within in
    writes_ok g.V.Volume.told g.V.Volume.state c.args.area.now c.loop-at.area c.args.name.now (length c.args.name.now + (length before + c.args.stated)) run.Volume run.Full _ so_far.keeps so_far.working
    (added_within g.V.Volume.told g.V.Volume.state c.args.area.now c.loop-at.area c.args.name.now so_far.bytes before c.args.stated so_far.added is (omega (arith, few, within)))

pub returns-clause-map : goal.returns-clause-map
returns-clause-map g c = λ t s before is.
    let file = bytes_or_none (get (g.S.Source.files c.args.src.now) c.args.path.now) in
    filled g.V.Volume.told g.V.Volume.state g.S.Source.told c.args.area.now c.loop-at.area c.args.name.now file c.loop-at.at c.args.stated c.loop-at.invariant.filling
    (λ s. (filling_done g.V.Volume.told g.V.Volume.state g.S.Source.told c.args.area.now c.loop-at.area c.args.name.now file c.loop-at.at c.args.stated c.loop-at.invariant.filling c.loop-at-test.false s).1)
    t s before is

pub returns-clause-found : goal.returns-clause-found
returns-clause-found g c = λ s.
    (filling_done g.V.Volume.told g.V.Volume.state g.S.Source.told c.args.area.now c.loop-at.area c.args.name.now (bytes_or_none (get (g.S.Source.files c.args.src.now) c.args.path.now)) c.loop-at.at c.args.stated c.loop-at.invariant.filling c.loop-at-test.false s).0
