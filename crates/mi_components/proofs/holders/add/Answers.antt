use Rattle.std.proofs.Common.{ap, ◌∙◌}
use Rattle.mi_components.specs.declared.holders.Holders.{Holders}
use Rattle.mi_components.specs.Holders.{both, held_at}
use Rattle.mi_components.proofs.HolderLemmas.{added_there}
use Rattle.mi_components.proofs.holders.add.Goals as goal

pub returns : goal.returns
returns c = λ q.
    c.in_ok-put.ensures q
    ∙ added_there q c.args.component.now (held_at c.args.held.now) c.args.holders c.with-all.result (c.with-all.ensures ∙ ap (λ (h : Holders). both h c.args.holders) c.held_at.ensures)
