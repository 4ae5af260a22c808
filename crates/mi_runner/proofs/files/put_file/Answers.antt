use Rattle.std.proofs.Common.{◌≡◌, ◌+◌, inl, List, ℕ, ◌++◌, length, refl, ◌∙◌, ap, arith, length-append}
use Rattle.std.proofs.lemmas.Result.{err_from_is_err_and}
use Rattle.std.proofs.lemmas.List.{take_all}
use Rattle.std.specs.FinMap.{get, insert}
use Rattle.mi_source.specs.Paths.{bytes_or_none}
use Rattle.mi_undo.specs.declared.fault.OpFault.TheVariants as op
use Rattle.mi_runner.specs.declared.fault.RunFault.TheVariants as run
use Rattle.mi_runner.specs.Faults.{read_fault_of}
use Rattle.mi_runner.proofs.RecordLemmas.{noted_outside}
use Rattle.mi_runner.proofs.StepLemmas.{keeps_start, working_live, within_start, within_put, held_is, writes_ok, write_failed, as_run, source_failed}
use Rattle.mi_runner.proofs.FaultLemmas.{read_is, never_read, never_op, reads_failed, reads_op}
use Rattle.mi_runner.proofs.files.put_file.Goals as goal

pub returns-in_err-bytes-clause-writes : goal.returns-in_err-bytes-clause-writes
returns-in_err-bytes-clause-writes g c =
    let p = err_from_is_err_and c.from_residual.result c.from_residual.ensures.1 in
    let n = length c.args.name.now + (length c.args.front + c.args.stated) in
    rw (p.1, p.2) (source_failed g.V.Volume.told g.V.Volume.state c.args.area.now c.args.area.now c.args.name.now n (read_fault_of c.in_err-bytes.field-0.0) (read_is c.in_err-bytes.field-0.0)
    (keeps_start g.V.Volume.told g.V.Volume.state c.args.area.now (λ q. q ≡ c.args.name.now))
    (working_live g.V.Volume.told g.V.Volume.state c.args.area.now c.requires.working)
    (within_start g.V.Volume.told g.V.Volume.state c.args.area.now c.args.name.now n))

pub returns-in_err-bytes-clause-reads : goal.returns-in_err-bytes-clause-reads
returns-in_err-bytes-clause-reads g c =
    let p = err_from_is_err_and c.from_residual.result c.from_residual.ensures.1 in
    rw (p.1, p.2) (reads_failed g.S.Source.files g.S.Source.faults c.args.src.now c.args.src.now c.read_front.new.src c.in_err-bytes.field-0.0 refl (omega arith) c.read_front.ensures.stays c.read_front.ensures.counts c.in_err-bytes.ensures.failed)

pub returns-in_err-bytes-clause-never : goal.returns-in_err-bytes-clause-never
returns-in_err-bytes-clause-never g c =
    let p = err_from_is_err_and c.from_residual.result c.from_residual.ensures.1 in
    rw (p.1, p.2) (never_read c.in_err-bytes.field-0.0)

pub returns-in_err-extend-clause-writes : goal.returns-in_err-extend-clause-writes
returns-in_err-extend-clause-writes g c =
    let p = err_from_is_err_and c.from_residual-in_err-extend.result c.from_residual-in_err-extend.ensures.1 in
    let n = length c.args.name.now + (length c.args.front + c.args.stated) in
    rw (p.1, p.2) (source_failed g.V.Volume.told g.V.Volume.state c.args.area.now c.args.area.now c.args.name.now n run.NoMemory (inl refl)
    (keeps_start g.V.Volume.told g.V.Volume.state c.args.area.now (λ q. q ≡ c.args.name.now))
    (working_live g.V.Volume.told g.V.Volume.state c.args.area.now c.requires.working)
    (within_start g.V.Volume.told g.V.Volume.state c.args.area.now c.args.name.now n))

pub returns-in_err-extend-clause-reads : goal.returns-in_err-extend-clause-reads
returns-in_err-extend-clause-reads g c =
    let p = err_from_is_err_and c.from_residual-in_err-extend.result c.from_residual-in_err-extend.ensures.1 in
    rw (p.1, p.2) (reads_op g.S.Source.files g.S.Source.faults c.args.src.now c.read_front.new.src op.NoMemory c.read_front.ensures.stays c.read_front.ensures.counts)

pub returns-in_err-put-clause-writes : goal.returns-in_err-put-clause-writes
returns-in_err-put-clause-writes g c =
    let p = err_from_is_err_and c.from_residual-in_err-put.result c.from_residual-in_err-put.ensures.1 in
    let n = length c.args.name.now + (length c.args.front + c.args.stated) in
    let a = c.in_err-put.ensures in
    let sum = ap length (c.as_slice-2.ensures ∙ c.in_ok-extend.ensures.ok) in
    let bytes = ap length c.as_slice.ensures in
    rw (p.1, p.2) (as_run g.V.Volume.told g.V.Volume.state {T = Unit {0}} c.args.area.now c.put.new.self c.args.name.now n c.in_err-put.field-0.0
    (write_failed g.V.Volume.told g.V.Volume.state c.args.area.now c.put.new.self c.args.name.now c.as_slice-2.result.now n c.in_err-put.field-0.0
    (record { reference = a.reference; kept = a.kept; changes = a.changes; room = a.room; others = a.others; passes = a.passes })
    a.live a.fault a.full (λ t. omega (arith, sum, bytes, length-append c.args.front c.as_slice.result.now, c.in_ok-bytes.ensures.short)) a.stays))

pub returns-in_err-put-clause-reads : goal.returns-in_err-put-clause-reads
returns-in_err-put-clause-reads g c =
    let p = err_from_is_err_and c.from_residual-in_err-put.result c.from_residual-in_err-put.ensures.1 in
    rw (p.1, p.2) (reads_op g.S.Source.files g.S.Source.faults c.args.src.now c.read_front.new.src c.in_err-put.field-0.0 c.read_front.ensures.stays c.read_front.ensures.counts)

pub returns-in_err-put-clause-never : goal.returns-in_err-put-clause-never
returns-in_err-put-clause-never g c =
    let p = err_from_is_err_and c.from_residual-in_err-put.result c.from_residual-in_err-put.ensures.1 in
    rw (p.1, p.2) (never_op c.in_err-put.field-0.0)

pub returns-clause-writes : goal.returns-clause-writes
returns-clause-writes g c =
    let n = length c.args.name.now + (length c.args.front + c.args.stated) in
    let a = c.in_ok-put.ensures in
    let sum = ap length (c.as_slice-2.ensures ∙ c.in_ok-extend.ensures.ok) in
    let bytes = ap length c.as_slice.ensures in
    writes_ok g.V.Volume.told g.V.Volume.state c.args.area.now c.put.new.self c.args.name.now n run.Volume run.Full _
    (record { reference = a.reference; kept = a.kept; changes = a.changes; room = a.room; others = a.others; passes = a.passes }) a.working
    (within_put g.V.Volume.told g.V.Volume.state c.args.area.now c.put.new.self c.args.name.now c.as_slice-2.result.now n
    (λ t. held_is _ _ c.args.name.now c.as_slice-2.result.now (noted_outside _ c.args.name.now c.requires.working.outside c.requires.noted) (a.others t) (a.map t))
    (omega (arith, sum, bytes, length-append c.args.front c.as_slice.result.now, c.in_ok-bytes.ensures.short)))

pub returns-clause-map : goal.returns-clause-map
returns-clause-map g c = λ t s long.
    let a = c.in_ok-put.ensures in
    let file = bytes_or_none (get (g.S.Source.files c.args.src.now) c.args.path.now) in
    held_is _ _ c.args.name.now c.as_slice-2.result.now (noted_outside _ c.args.name.now c.requires.working.outside c.requires.noted) (a.others t) (a.map t)
    ∙ ap (λ (l : List ℕ). insert (g.V.Volume.state c.args.area.now.vol.now).held c.args.name.now l)
    (c.as_slice-2.ensures ∙ c.in_ok-extend.ensures.ok ∙ ap (λ (l : List ℕ). c.args.front ++ l) (c.as_slice.ensures ∙ c.in_ok-bytes.ensures.value s ∙ take_all c.args.stated file (omega (arith, long))))

pub returns-clause-found : goal.returns-clause-found
returns-clause-found g c = λ s long.
    let file = bytes_or_none (get (g.S.Source.files c.args.src.now) c.args.path.now) in
    c.len.ensures ∙ ap length (c.in_ok-bytes.ensures.value s ∙ take_all c.args.stated file (omega (arith, long))) ∙ long
