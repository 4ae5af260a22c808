use Rattle.std.proofs.Common.{List, ℕ, ◌++◌, Option, length, sym, ap, subst, ◌∙◌, arith, length-append}
use Rattle.std.specs.FinMap.{get}
use Rattle.mi_undo.specs.Notes.{old_bytes}
use Rattle.mi_undo.specs.Entry.{Gathers}
use Rattle.mi_undo.proofs.AddLemmas.{added_get}
use Rattle.mi_undo.proofs.GatherLemmas.{gathers_as, gathers_then, written_of}
use Rattle.mi_undo.proofs.entry.gather_note.Goals as goal

pub returns-in_err-gather-clause-gathers : goal.returns-in_err-gather-clause-gathers
returns-in_err-gather-clause-gathers g c = λ told ne long before is.
    let r = c.from_residual in
    let old = old_bytes (get (g.V.Volume.state c.args.vol.now).held c.args.name.now) in
    gathers_as (g.V.Volume.state c.args.vol.now) (g.V.Volume.state c.gather.new.vol) c.args.entry.now before c.args.pending.now c.args.head.now _ (c.args.head.now ++ old) _ r.result c.in_err-gather.field-0.0
    (c.in_err-gather.ensures.gathers told before is) r.ensures.1 r.ensures.0 (omega (arith, length-append c.args.head.now old))

pub returns-clause-gathers : goal.returns-clause-gathers
returns-clause-gathers g c = λ told ne long before is.
    let s = g.V.Volume.state c.args.vol.now in
    let t = g.V.Volume.state c.gather.new.vol in
    let u = g.V.Volume.state c.gather_old.new.vol in
    let head = c.in_ok-gather.ensures.gathers told before is in
    let other = head.only.others c.args.name.now (λ e. ne (sym e)) in
    gathers_then s t u c.args.entry.now before c.args.pending.now c.args.head.now c.gather.new.pending (old_bytes (get s.held c.args.name.now)) c.gather_old.new.pending _ c.gather_old.result head
    (subst (λ (o : Option (List ℕ)). Gathers c.args.entry.now (before ++ head.ok.0) c.gather.new.pending (old_bytes o) c.gather_old.new.pending t u c.gather_old.result) other
    (c.gather_old.ensures.gathers told ne (long ∙ ap (λ (o : Option (List ℕ)). length (old_bytes o)) (sym other)) (before ++ head.ok.0)
    (added_get s t c.args.entry.now before head.ok.0 (written_of s t c.args.entry.now before c.args.pending.now c.args.head.now c.gather.new.pending _ head))))
