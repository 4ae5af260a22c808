use Rattle.std.proofs.Common.{◌≡◌, ◌+◌, ◌-◌, ◌++◌, length, take, drop, ◌∙◌, ap, sym, arith, List, ℕ, Err}
use Rattle.std.proofs.lemmas.Result.{err_from_is_err_and}
use Rattle.std.proofs.lemmas.Bool.{eqb-true}
use Rattle.std.specs.FinMap.{get, insert}
use Rattle.mi_text.proofs.PieceLemmas.{take_own}
use Rattle.mi_volume.specs.Maps.{bytes_or_none}
use Rattle.mi_undo.specs.declared.fault.OpFault.TheVariants as op
use Rattle.mi_undo.specs.Faults.{vol_fault_of}
use Rattle.mi_runner.proofs.RecordLemmas.{noted_outside}
use Rattle.mi_runner.proofs.StepLemmas.{held_is, keeps_looks, keeps_then, still_working, working_live, noted_still, within_stays, writes_ok, writes_then, write_failed, look_failed, within_start}
use Rattle.mi_runner.proofs.AppendLemmas.{was_failed, not_full, added_small, added_within, appending_starts, appending_short, other_read, appending_more, appending_ends, run_short, run_ended}
use Rattle.mi_runner.proofs.bytes.append_held.Goals as goal

pub loop-at-init : goal.loop-at-init
loop-at-init g c = appending_starts g.V.Volume.told g.V.Volume.state c.args.area.now c.args.name.now c.args.from.now c.args.at c.args.end c.requires.working

pub returns-in_err-bytes-clause-writes : goal.returns-in_err-bytes-clause-writes
returns-in_err-bytes-clause-writes g c = λ before is.
    let p = err_from_is_err_and c.from_residual.result c.from_residual.ensures.1 in
    let e = c.read.ensures in
    let so_far = c.loop-at.invariant in
    let short = appending_short g.V.Volume.told g.V.Volume.state c.args.area.now c.loop-at.area c.args.name.now c.args.from.now c.args.at c.loop-at.at c.args.end so_far in
    let n = length c.args.name.now + (length before + (c.args.end - c.args.at)) in
    rw (p.1, p.2) (writes_then g.V.Volume.told g.V.Volume.state c.args.area.now c.loop-at.area c.read.new.self c.args.name.now n op.Fault op.Full _ so_far.keeps
    (added_within g.V.Volume.told g.V.Volume.state c.args.area.now c.loop-at.area c.args.name.now _ before (c.args.end - c.args.at) so_far.added is short)
    (look_failed g.V.Volume.told g.V.Volume.state c.loop-at.area c.read.new.self c.args.name.now n (vol_fault_of c.in_err-bytes.field-0.0)
    (keeps_looks g.V.Volume.told g.V.Volume.state c.loop-at.area c.read.new.self (λ q. q ≡ c.args.name.now) e.reference e.kept e.stays e.moments e.works e.room)
    (working_live g.V.Volume.told g.V.Volume.state c.read.new.self (still_working g.V.Volume.told g.V.Volume.state c.loop-at.area c.read.new.self e.kept e.progress so_far.working))
    (within_stays g.V.Volume.told g.V.Volume.state c.loop-at.area c.loop-at.area c.read.new.self c.args.name.now n (within_start g.V.Volume.told g.V.Volume.state c.loop-at.area c.args.name.now n) e.stays)
    (λ f. c.in_err-bytes.ensures.fault (ap Err (was_failed c.in_err-bytes.field-0.0 f)))
    (not_full c.in_err-bytes.field-0.0)))

pub returns-then-is_empty-clause-writes : goal.returns-then-is_empty-clause-writes
returns-then-is_empty-clause-writes g c = λ before is.
    let e = c.read.ensures in
    let so_far = c.loop-at.invariant in
    let short = appending_short g.V.Volume.told g.V.Volume.state c.args.area.now c.loop-at.area c.args.name.now c.args.from.now c.args.at c.loop-at.at c.args.end so_far in
    let n = length c.args.name.now + (length before + (c.args.end - c.args.at)) in
    writes_ok g.V.Volume.told g.V.Volume.state c.args.area.now c.read.new.self c.args.name.now n op.Fault op.Full _
    (keeps_then g.V.Volume.told g.V.Volume.state c.args.area.now c.loop-at.area c.read.new.self (λ q. q ≡ c.args.name.now) so_far.keeps
    (keeps_looks g.V.Volume.told g.V.Volume.state c.loop-at.area c.read.new.self (λ q. q ≡ c.args.name.now) e.reference e.kept e.stays e.moments e.works e.room))
    (still_working g.V.Volume.told g.V.Volume.state c.loop-at.area c.read.new.self e.kept e.progress so_far.working)
    (within_stays g.V.Volume.told g.V.Volume.state c.args.area.now c.loop-at.area c.read.new.self c.args.name.now n
    (added_within g.V.Volume.told g.V.Volume.state c.args.area.now c.loop-at.area c.args.name.now _ before (c.args.end - c.args.at) so_far.added is short) e.stays)

pub returns-then-is_empty-clause-map : goal.returns-then-is_empty-clause-map
returns-then-is_empty-clause-map g c = λ told before is.
    let so_far = c.loop-at.invariant in
    let bytes = bytes_or_none (get (g.V.Volume.state c.args.area.now.vol.now).held c.args.from.now) in
    let read = other_read g.V.Volume.told g.V.Volume.state c.args.area.now c.loop-at.area c.args.name.now c.args.from.now c.in_ok-bytes.bytes c.args.at c.loop-at.at c.args.end c.min-want.result so_far told c.requires.other (c.in_ok-bytes.ensures.value told) in
    let nothing : length (take c.min-want.result (drop c.loop-at.at bytes)) ≡ 0 = ap length (sym read) ∙ eqb-true (length c.in_ok-bytes.bytes) 0 (sym c.if-is_empty.ensures) in
    (c.read.ensures.stays told).held ∙ so_far.added told before is
    ∙ ap (λ (l : List ℕ). insert (g.V.Volume.state c.args.area.now.vol.now).held c.args.name.now (before ++ l))
    (run_ended bytes c.args.at c.loop-at.at c.min-want.result c.args.end so_far.low (omega (arith, c.loop-at-test.true)) (omega (arith, c.min-want.ensures, c.loop-at-test.true)) nothing)

pub append-requires-clause-working : goal.append-requires-clause-working
append-requires-clause-working g c = still_working g.V.Volume.told g.V.Volume.state c.loop-at.area c.read.new.self c.read.ensures.kept c.read.ensures.progress c.loop-at.invariant.working

pub append-requires-clause-noted : goal.append-requires-clause-noted
append-requires-clause-noted g c = noted_still g.V.Volume.told g.V.Volume.state c.args.area.now c.read.new.self c.args.name.now (c.read.ensures.kept ∙ c.loop-at.invariant.keeps.kept) c.requires.noted

pub returns-in_err-append-clause-writes : goal.returns-in_err-append-clause-writes
returns-in_err-append-clause-writes g c = λ before is.
    let p = err_from_is_err_and c.from_residual-in_err-append.result c.from_residual-in_err-append.ensures.1 in
    let e = c.read.ensures in
    let a = c.in_err-append.ensures in
    let so_far = c.loop-at.invariant in
    let short = appending_short g.V.Volume.told g.V.Volume.state c.args.area.now c.loop-at.area c.args.name.now c.args.from.now c.args.at c.loop-at.at c.args.end so_far in
    let n = length c.args.name.now + (length before + (c.args.end - c.args.at)) in
    let bytes = bytes_or_none (get (g.V.Volume.state c.args.area.now.vol.now).held c.args.from.now) in
    let front = run_short (c.loop-at.at - c.args.at) (drop c.args.at bytes) in
    let piece = ap length c.as_slice.ensures in
    rw (p.1, p.2) (writes_then g.V.Volume.told g.V.Volume.state c.args.area.now c.read.new.self c.append.new.self c.args.name.now n op.Fault op.Full _
    (keeps_then g.V.Volume.told g.V.Volume.state c.args.area.now c.loop-at.area c.read.new.self (λ q. q ≡ c.args.name.now) so_far.keeps
    (keeps_looks g.V.Volume.told g.V.Volume.state c.loop-at.area c.read.new.self (λ q. q ≡ c.args.name.now) e.reference e.kept e.stays e.moments e.works e.room))
    (within_stays g.V.Volume.told g.V.Volume.state c.args.area.now c.loop-at.area c.read.new.self c.args.name.now n
    (added_within g.V.Volume.told g.V.Volume.state c.args.area.now c.loop-at.area c.args.name.now _ before (c.args.end - c.args.at) so_far.added is short) e.stays)
    (write_failed g.V.Volume.told g.V.Volume.state c.read.new.self c.append.new.self c.args.name.now _ n c.in_err-append.field-0.0
    (record { reference = a.reference; kept = a.kept; changes = a.changes; room = a.room; others = a.others; passes = a.passes })
    a.live a.fault a.full
    (added_small g.V.Volume.told g.V.Volume.state c.args.area.now c.loop-at.area c.read.new.self c.args.name.now (take (c.loop-at.at - c.args.at) (drop c.args.at bytes)) c.as_slice.result.now before (c.args.end - c.args.at) so_far.added (λ t. (e.stays t).held) is
    (omega (arith, front, piece, c.in_ok-bytes.ensures.short, c.min-want.ensures, c.loop-at-test.true, so_far.low)))
    a.stays))

pub loop-at-preserved : goal.loop-at-preserved
loop-at-preserved g c =
    let e = c.read.ensures in
    let a = c.in_ok-append.ensures in
    appending_more g.V.Volume.told g.V.Volume.state c.args.area.now c.loop-at.area c.read.new.self c.append.new.self c.args.name.now c.args.from.now c.as_slice.result.now c.args.at c.loop-at.at c.args.end c.len.result
    c.loop-at.invariant c.requires.other (omega (arith, c.len.ensures, c.in_ok-bytes.ensures.short, c.min-want.ensures, c.loop-at-test.true))
    (keeps_looks g.V.Volume.told g.V.Volume.state c.loop-at.area c.read.new.self (λ q. q ≡ c.args.name.now) e.reference e.kept e.stays e.moments e.works e.room)
    (λ t. (e.stays t).held)
    (λ t.
    let held = bytes_or_none (get (g.V.Volume.state c.loop-at.area.vol.now).held c.args.from.now) in
    let gave = c.in_ok-bytes.ensures.value t in
    c.as_slice.ensures ∙ gave ∙ sym (take_own c.min-want.result (drop c.loop-at.at held)) ∙ ap (λ (l : List ℕ). take (length l) (drop c.loop-at.at held)) (sym gave) ∙ ap (λ (k : ℕ). take k (drop c.loop-at.at held)) (sym c.len.ensures))
    (record { reference = a.reference; kept = a.kept; changes = a.changes; room = a.room; others = a.others; passes = a.passes }) a.working
    (λ t. held_is _ _ c.args.name.now _ (noted_outside _ c.args.name.now c.requires.working.outside c.requires.noted) (a.others t) (a.map t))

pub returns-clause-writes : goal.returns-clause-writes
returns-clause-writes g c = λ before is.
    let so_far = c.loop-at.invariant in
    let short = appending_short g.V.Volume.told g.V.Volume.state c.args.area.now c.loop-at.area c.args.name.now c.args.from.now c.args.at c.loop-at.at c.args.end so_far in
    writes_ok g.V.Volume.told g.V.Volume.state c.args.area.now c.loop-at.area c.args.name.now (length c.args.name.now + (length before + (c.args.end - c.args.at))) op.Fault op.Full _ so_far.keeps so_far.working
    (added_within g.V.Volume.told g.V.Volume.state c.args.area.now c.loop-at.area c.args.name.now _ before (c.args.end - c.args.at) so_far.added is short)

pub returns-clause-map : goal.returns-clause-map
returns-clause-map g c = λ told. appending_ends g.V.Volume.told g.V.Volume.state c.args.area.now c.loop-at.area c.args.name.now c.args.from.now c.args.at c.loop-at.at c.args.end c.loop-at.invariant c.loop-at-test.false told
