use Rattle.std.proofs.Common.{◌≡◌, ℕ, true, false, List, nat_eq, sym, ap, ◌∙◌}
use Rattle.std.specs.Cmp.Lexicographic.{pointwise}
use Rattle.mi_undo.specs.Names.{marker}
use Rattle.mi_undo.proofs.SweepLemmas.{sweeps_removed}
use Rattle.mi_undo.proofs.sweep.sweep_name.Goals as goal

pub returns-clause-sweeps : goal.returns-clause-sweeps
returns-clause-sweeps g c = λ told A is inside shut.
    sweeps_removed (g.V.Volume.state c.args.vol.now) (g.V.Volume.state c.remove.new.self) A c.args.name.now c.remove.result shut inside
    (λ e. let clash : true ≡ false = sym (c.eq.ensures ∙ ap (λ (n : List ℕ). pointwise nat_eq n c.args.marker_name.now) e ∙ ap (λ (n : List ℕ). pointwise nat_eq marker n) is) ∙ c.if-eq.false in cc)
    c.remove.ensures.moments (c.remove.ensures.removes told)
