use Rattle.std.proofs.Common.{List, ℕ, ap, subst, ◌∙◌}
use Rattle.std.specs.FinMap.{get}
use Rattle.mi_volume.specs.Maps.{Map}
use Rattle.mi_undo.specs.Entry.{Gathers}
use Rattle.mi_undo.proofs.FaultLemmas.{never_full}
use Rattle.mi_undo.proofs.GatherLemmas.{gathers_looked, look_failed, whole_old}
use Rattle.mi_undo.proofs.gather.gather_piece.Goals as goal

pub returns-in_err-old-clause-gathers : goal.returns-in_err-old-clause-gathers
returns-in_err-old-clause-gathers g c = λ told long before is.
    let r = c.from_residual in
    let looks = c.read_piece.ensures.looks told in
    look_failed (g.V.Volume.state c.args.vol.now) (g.V.Volume.state c.read_piece.new.vol) c.args.entry.now before c.args.pending.now _ _ r.result
    looks.goes looks.stays r.ensures.0 (never_full r.result c.in_err-old.field-0.0 r.ensures.1)

pub returns-clause-gathers : goal.returns-clause-gathers
returns-clause-gathers g c = λ told long before is.
    let s = g.V.Volume.state c.args.vol.now in
    let looks = c.read_piece.ensures.looks told in
    let same_bytes = c.as_slice.ensures ∙ c.in_ok-old.ensures.value told ∙ whole_old (get s.held c.args.name.now) c.args.len long in
    gathers_looked s (g.V.Volume.state c.read_piece.new.vol) (g.V.Volume.state c.gather.new.vol) c.args.entry.now before c.args.pending.now _ c.gather.new.pending c.gather.result looks.goes looks.stays
    (subst (λ (l : List ℕ). Gathers c.args.entry.now before c.args.pending.now l c.gather.new.pending (g.V.Volume.state c.read_piece.new.vol) (g.V.Volume.state c.gather.new.vol) c.gather.result) same_bytes
    (c.gather.ensures.gathers told before (ap (λ (m : Map). get m c.args.entry.now) looks.stays.held ∙ is)))
