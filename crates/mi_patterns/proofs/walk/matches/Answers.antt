use Rattle.std.proofs.Common.{◌==◌, rules, tests}
use Rattle.std.proofs.lemmas.Iterator.{YieldsList-from_slice}
use Rattle.std.proofs.lemmas.Iterator.Search.{all_from_yields_List}
use Rattle.mi_patterns.proofs.PatternLemmas.{empty}
use Rattle.mi_patterns.proofs.WalkLemmas.{ends}
use Rattle.mi_patterns.proofs.walk.matches.Goals as goal

pub returns : goal.returns
returns c =
    let w = c.loop-c.walk in
    ends c.args.pattern.now c.args.text.now w.way w.pattern.now w.text.now c.all.result (empty _ c.in_default.ensures.cases) c.loop-c.invariant.0
    (all_from_yields_List (λ p. p == 42) _ _ _ c.all.ensures.ran (YieldsList-from_slice w.pattern.now cc) (λ x b q k. search (rules, tests)))
