use Rattle.std.proofs.Common.{◌≡◌, ◌+◌, ◌-◌, length, ◌∙◌, ap, sym, arith, Ok, Err}
use Rattle.std.proofs.lemmas.Result.{err_from_is_err_and}
use Rattle.std.specs.Option.{option_map}
use Rattle.std.specs.FinMap.{get}
use Rattle.mi_volume.specs.Maps.{Map}
use Rattle.mi_base.specs.Spelling.{head_bytes}
use Rattle.mi_undo.specs.declared.fault.OpFault.TheVariants as op
use Rattle.mi_runner.proofs.StepLemmas.{keeps_looks, keeps_then, still_working, working_live, noted_still, within_put, within_stays, within_start, writes_then, writes_more, look_failed}
use Rattle.mi_runner.proofs.FaultLemmas.{fault_not_full}
use Rattle.mi_runner.proofs.FileLemmas.{told_length, duplicated, stands_there}
use Rattle.mi_runner.proofs.files.write_duplicate.Goals as goal

pub returns-in_err-write_head-clause-writes : goal.returns-in_err-write_head-clause-writes
returns-in_err-write_head-clause-writes g c =
    let p = err_from_is_err_and c.from_residual.result c.from_residual.ensures.1 in
    rw (p.1, p.2) (writes_more g.V.Volume.told g.V.Volume.state c.args.area.now c.write_head.new.area c.args.name.now (length c.args.name.now + length (head_bytes c.args.head.now)) (length c.args.name.now + (length (head_bytes c.args.head.now) + c.args.head.now.length)) op.Fault op.Full (Err c.in_err-write_head.field-0.0) (omega arith) c.in_err-write_head.ensures.writes)

pub returns-in_err-size-clause-writes : goal.returns-in_err-size-clause-writes
returns-in_err-size-clause-writes g c =
    let p = err_from_is_err_and c.from_residual-in_err-size.result c.from_residual-in_err-size.ensures.1 in
    let w = c.in_ok-write_head.ensures.writes in
    let e = c.size.ensures in
    let n = length c.args.name.now + (length (head_bytes c.args.head.now) + c.args.head.now.length) in
    rw (p.1, p.2) (writes_then g.V.Volume.told g.V.Volume.state c.args.area.now c.write_head.new.area c.size.new.self c.args.name.now n op.Fault op.Full _ w.keeps
    (within_put g.V.Volume.told g.V.Volume.state c.args.area.now c.write_head.new.area c.args.name.now (head_bytes c.args.head.now) n c.in_ok-write_head.ensures.map (omega arith))
    (look_failed g.V.Volume.told g.V.Volume.state c.write_head.new.area c.size.new.self c.args.name.now n op.Fault
    (keeps_looks g.V.Volume.told g.V.Volume.state c.write_head.new.area c.size.new.self (λ q. q ≡ c.args.name.now) e.reference e.kept e.stays e.moments e.works e.room)
    (working_live g.V.Volume.told g.V.Volume.state c.size.new.self (still_working g.V.Volume.told g.V.Volume.state c.write_head.new.area c.size.new.self e.kept e.progress w.working))
    (within_stays g.V.Volume.told g.V.Volume.state c.write_head.new.area c.write_head.new.area c.size.new.self c.args.name.now n (within_start g.V.Volume.told g.V.Volume.state c.write_head.new.area c.args.name.now n) e.stays)
    (λ f. c.in_err-size.ensures.fault) fault_not_full))

pub append_held-requires-clause-working : goal.append_held-requires-clause-working
append_held-requires-clause-working g c = still_working g.V.Volume.told g.V.Volume.state c.write_head.new.area c.size.new.self c.size.ensures.kept c.size.ensures.progress c.in_ok-write_head.ensures.writes.working

pub append_held-requires-clause-noted : goal.append_held-requires-clause-noted
append_held-requires-clause-noted g c = noted_still g.V.Volume.told g.V.Volume.state c.args.area.now c.size.new.self c.args.name.now (c.size.ensures.kept ∙ c.in_ok-write_head.ensures.writes.keeps.kept) c.requires.noted

pub returns-in_err-append_held-clause-writes : goal.returns-in_err-append_held-clause-writes
returns-in_err-append_held-clause-writes g c =
    let p = err_from_is_err_and c.from_residual-in_err-append_held.result c.from_residual-in_err-append_held.ensures.1 in
    let head = c.in_ok-write_head.ensures in
    let e = c.size.ensures in
    let n = length c.args.name.now + (length (head_bytes c.args.head.now) + c.args.head.now.length) in
    rw (p.1, p.2) (writes_then g.V.Volume.told g.V.Volume.state c.args.area.now c.size.new.self c.append_held.new.area c.args.name.now n op.Fault op.Full _
    (keeps_then g.V.Volume.told g.V.Volume.state c.args.area.now c.write_head.new.area c.size.new.self (λ q. q ≡ c.args.name.now) head.writes.keeps
    (keeps_looks g.V.Volume.told g.V.Volume.state c.write_head.new.area c.size.new.self (λ q. q ≡ c.args.name.now) e.reference e.kept e.stays e.moments e.works e.room))
    (within_stays g.V.Volume.told g.V.Volume.state c.args.area.now c.write_head.new.area c.size.new.self c.args.name.now n
    (within_put g.V.Volume.told g.V.Volume.state c.args.area.now c.write_head.new.area c.args.name.now (head_bytes c.args.head.now) n head.map (omega arith)) e.stays)
    (writes_more g.V.Volume.told g.V.Volume.state c.size.new.self c.append_held.new.area c.args.name.now (length c.args.name.now + (length (head_bytes c.args.head.now) + (c.unwrap_or-size.result - c.saturating_sub.result))) n op.Fault op.Full (Err c.in_err-append_held.field-0.0)
    (omega (arith, c.saturating_sub.ensures))
    (c.in_err-append_held.ensures.writes (head_bytes c.args.head.now) (λ t. ap (λ (m : Map). get m c.args.name.now) (e.stays t).held ∙ stands_there _ _ c.args.name.now (head_bytes c.args.head.now) (head.map t)))))

pub returns-clause-writes : goal.returns-clause-writes
returns-clause-writes g c =
    let head = c.in_ok-write_head.ensures in
    let e = c.size.ensures in
    let n = length c.args.name.now + (length (head_bytes c.args.head.now) + c.args.head.now.length) in
    writes_then g.V.Volume.told g.V.Volume.state c.args.area.now c.size.new.self c.append_held.new.area c.args.name.now n op.Fault op.Full _
    (keeps_then g.V.Volume.told g.V.Volume.state c.args.area.now c.write_head.new.area c.size.new.self (λ q. q ≡ c.args.name.now) head.writes.keeps
    (keeps_looks g.V.Volume.told g.V.Volume.state c.write_head.new.area c.size.new.self (λ q. q ≡ c.args.name.now) e.reference e.kept e.stays e.moments e.works e.room))
    (within_stays g.V.Volume.told g.V.Volume.state c.args.area.now c.write_head.new.area c.size.new.self c.args.name.now n
    (within_put g.V.Volume.told g.V.Volume.state c.args.area.now c.write_head.new.area c.args.name.now (head_bytes c.args.head.now) n head.map (omega arith)) e.stays)
    (writes_more g.V.Volume.told g.V.Volume.state c.size.new.self c.append_held.new.area c.args.name.now (length c.args.name.now + (length (head_bytes c.args.head.now) + (c.unwrap_or-size.result - c.saturating_sub.result))) n op.Fault op.Full (Ok c.in_ok-append_held.field-0)
    (omega (arith, c.saturating_sub.ensures))
    (c.in_ok-append_held.ensures.writes (head_bytes c.args.head.now) (λ t. ap (λ (m : Map). get m c.args.name.now) (e.stays t).held ∙ stands_there _ _ c.args.name.now (head_bytes c.args.head.now) (head.map t))))

pub returns-clause-map : goal.returns-clause-map
returns-clause-map g c = λ t.
    let head = c.in_ok-write_head.ensures.map t in
    let still = (c.size.ensures.stays t).held in
    duplicated _ _ _ c.args.name.now c.args.from.now (head_bytes c.args.head.now) c.args.head.now.length c.unwrap_or-size.result c.saturating_sub.result c.requires.other
    (still ∙ head) c.saturating_sub.ensures
    (told_length c.in_ok-size.field-0 _ c.unwrap_or-size.result (c.in_ok-size.ensures.value t ∙ ap (λ (m : Map). option_map length (get m c.args.from.now)) (sym still)) c.unwrap_or-size.ensures)
    (c.in_ok-append_held.ensures.map t (head_bytes c.args.head.now) (ap (λ (m : Map). get m c.args.name.now) still ∙ stands_there _ _ c.args.name.now (head_bytes c.args.head.now) head))
