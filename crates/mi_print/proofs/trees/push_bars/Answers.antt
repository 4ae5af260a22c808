use Rattle.std.proofs.Common.{◌++◌, ◌-◌, ◌+◌, ℕ, List, sym, ap, ◌∙◌, append_assoc}
use Rattle.std.specs.Prelude.{codes}
use Rattle.mi_print.specs.Trees.{bars}
use Rattle.mi_print.proofs.TreeCodeLemmas.{bars_more}
use Rattle.mi_print.proofs.trees.push_bars.Goals as goal

pub loop-bar-preserved : goal.loop-bar-preserved
loop-bar-preserved c =
    let rest : List ℕ = bars (c.args.count - (c.loop-bar._bar + 1)) in
    ap (λ (l : List ℕ). l ++ rest) c.in_ok-extend_from_slice.ensures.items
    ∙ append_assoc c.loop-bar.out.items (codes "| ") rest
    ∙ ap (λ (l : List ℕ). c.loop-bar.out.items ++ l) (sym (bars_more c.args.count c.loop-bar._bar c.loop-bar-test.true))
    ∙ c.loop-bar.invariant
