use Rattle.std.proofs.Common.{ℕ, List, Err, refl, sym, subst}
use Rattle.mi_undo.specs.Clear.{AreInside, AreAll}
use Rattle.mi_undo.proofs.PutLemmas.{unshut, shut_sealed, all_after, shut_cleared}
use Rattle.mi_undo.proofs.back.shut_area.Goals as goal

pub returns-in_err-mark_synced-clause-shuts : goal.returns-in_err-mark_synced-clause-shuts
returns-in_err-mark_synced-clause-shuts g c = λ told F ns keeps clean back is inside all.
    let s = g.V.Volume.state c.args.vol.now in let t = g.V.Volume.state c.mark_synced.new.vol in
    unshut s t F ns c.args.kept.now.marker keeps clean back is c.mark_synced.result (c.mark_synced.ensures.seals told) c.from_residual.result c.from_residual.ensures.0

pub returns-clause-shuts : goal.returns-clause-shuts
returns-clause-shuts g c = λ told F ns keeps clean back is inside all.
    let s = g.V.Volume.state c.args.vol.now in let t = g.V.Volume.state c.mark_synced.new.vol in let u = g.V.Volume.state c.clear_area.new.vol in
    let seals = c.in_ok-mark_synced.ensures.seals told in
    shut_cleared s t u F c.clear_area.result _ (unshut s t F ns c.args.kept.now.marker keeps clean back is _ seals {U = Unit {0}} {G = Unit {0}} (Err tt) refl)
    (c.clear_area.ensures.clears told F is (subst AreInside (sym c.deref.ensures.value) inside) (shut_sealed s t F ns c.args.kept.now.marker keeps clean back is _ seals)
    (subst (λ (l : List (List ℕ)). AreAll t.held l) (sym c.deref.ensures.value) (all_after s t F ns c.args.kept.now.marker keeps clean back is _ seals c.args.kept.now.area.items all)))
