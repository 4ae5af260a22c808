use Rattle.std.proofs.Common.{ℕ, List, Some, None, ap, ◌∙◌}
use Rattle.mi_show.proofs.DiffLemmas.{item_at}
use Rattle.mi_show.proofs.lines_of.line_at.Goals as goal

pub returns-in_ok-line-in-Some-clause-text : goal.returns-in_ok-line-in-Some-clause-text
returns-in_ok-line-in-Some-clause-text g c = λ told there.
    ap (λ (l : List ℕ). Some l) (c.in_ok-line-in-Some.ensures.text told there)
    ∙ item_at (g.V.Volume.state c.args.vol.now).held c.args.image.now c.get.ensures.right there c.args.name.now (Some c.in-Some.item.now) c.in-Some.ensures.value

pub returns-in-None-clause-text : goal.returns-in-None-clause-text
returns-in-None-clause-text g c = λ told there. item_at (g.V.Volume.state c.args.vol.now).held c.args.image.now c.get.ensures.right there c.args.name.now None c.in-None.ensures.value
