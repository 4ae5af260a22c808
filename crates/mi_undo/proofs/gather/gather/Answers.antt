use Rattle.std.proofs.Common.{[], arith}
use Rattle.mi_undo.proofs.FaultLemmas.{memory_not_full}
use Rattle.mi_undo.proofs.GatherLemmas.{gathers_as, gathers_more, memory_failed}
use Rattle.mi_undo.proofs.gather.gather.Goals as goal

pub returns-in_err-make_room-clause-gathers : goal.returns-in_err-make_room-clause-gathers
returns-in_err-make_room-clause-gathers g c = λ told before is.
    let r = c.from_residual in
    gathers_as (g.V.Volume.state c.args.vol.now) (g.V.Volume.state c.make_room.new.vol) c.args.entry.now before c.args.pending.now [] _ c.args.bytes.now _ r.result c.in_err-make_room.field-0.0
    (c.in_err-make_room.ensures.gathers told before is) r.ensures.1 r.ensures.0 (omega arith)

pub returns-in_err-extend-clause-gathers : goal.returns-in_err-extend-clause-gathers
returns-in_err-extend-clause-gathers g c = λ told before is.
    let r = c.from_residual-in_err-extend in
    memory_failed (g.V.Volume.state c.args.vol.now) (g.V.Volume.state c.make_room.new.vol) c.args.entry.now before c.args.pending.now [] _ c.args.bytes.now _ _ r.result
    (c.in_ok-make_room.ensures.gathers told before is) (omega arith) r.ensures.0 (memory_not_full r.result r.ensures.1)

pub returns-clause-gathers : goal.returns-clause-gathers
returns-clause-gathers g c = λ told before is.
    gathers_more (g.V.Volume.state c.args.vol.now) (g.V.Volume.state c.make_room.new.vol) c.args.entry.now before c.args.pending.now _ c.args.bytes.now _ _ _
    (c.in_ok-make_room.ensures.gathers told before is) c.in_ok-extend.ensures.ok
