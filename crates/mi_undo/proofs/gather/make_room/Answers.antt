use Rattle.std.proofs.Common.{List, ℕ, [], ◌++◌, Err, ap, subst}
use Rattle.mi_undo.specs.Entry.{Gathers}
use Rattle.mi_undo.proofs.FaultLemmas.{full_was}
use Rattle.mi_undo.proofs.AddLemmas.{put_added, put_failed}
use Rattle.mi_undo.proofs.GatherLemmas.{gathered, ungathered, gather_failed}
use Rattle.mi_undo.proofs.gather.make_room.Goals as goal

pub returns-then-len-more-le-PIECE-clause-gathers : goal.returns-then-len-more-le-PIECE-clause-gathers
returns-then-len-more-le-PIECE-clause-gathers g c = λ told before is. ungathered (g.V.Volume.state c.args.vol.now) c.args.entry.now before c.args.pending.now _ is

pub returns-in_err-append-clause-gathers : goal.returns-in_err-append-clause-gathers
returns-in_err-append-clause-gathers g c = λ told before is.
    let s = g.V.Volume.state c.args.vol.now in
    let t = g.V.Volume.state c.append.new.self in
    let r = c.from_residual in
    subst (λ (l : List ℕ). Gathers c.args.entry.now before l [] c.args.pending.now s t r.result) c.as_slice.ensures
    (gather_failed s t c.args.entry.now before c.as_slice.result.now [] c.args.pending.now r.result
    (put_failed s t c.args.entry.now before c.as_slice.result.now [] _ _ is c.append.ensures.moments (c.in_err-append.ensures.writes told) r.ensures.0
    (λ full. ap Err (full_was r.result c.in_err-append.field-0.0 r.ensures.1 full))) r.ensures.0)

pub returns-clause-gathers : goal.returns-clause-gathers
returns-clause-gathers g c = λ told before is.
    let s = g.V.Volume.state c.args.vol.now in
    let t = g.V.Volume.state c.append.new.self in
    gathered s t c.args.entry.now before c.args.pending.now [] c.new.result c.as_slice.result.now _
    (put_added s t c.args.entry.now before c.as_slice.result.now _ is c.append.ensures.moments (c.in_ok-append.ensures.writes told))
    (λ i. c.as_slice.ensures i ++ c.new.ensures i)
