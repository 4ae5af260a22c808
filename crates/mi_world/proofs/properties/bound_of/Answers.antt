use Rattle.std.proofs.Common.{◌≡◌, ◌+◌, List, [], ◌∷◌, ◌++◌, length, take, sym, ap, ◌∙◌, arith}
use Rattle.std.proofs.lemmas.List.{take_more}
use Rattle.mi_text.specs.Maps.{Name}
use Rattle.mi_props.specs.Props.{Value, given}
use Rattle.mi_world.proofs.BoundLemmas.{at_least, given_more}
use Rattle.mi_world.proofs.properties.bound_of.Goals as goal

pub loop-pair-preserved : goal.loop-pair-preserved
loop-pair-preserved c = λ name long.
    let pairs = c.args.pairs.now in
    let i = c.loop-pair.pair-index in
    let pair = c.pair-item.result in
    let taken : take i pairs ++ (pair.0, pair.1) ∷ [] ≡ take (i + 1) pairs = ap (λ (p : Name × Value). take i pairs ++ p ∷ []) c.pair-item.is ∙ sym (take_more pairs i pair c.loop-pair-test.true) in
    let size : length c.as_str.result.now ≡ length pair.0 = ap length c.as_str.ensures in
    let greater = at_least c.loop-pair.bound (length c.as_str.result.now + 1) c.max-bound.result c.max-bound.ensures in
    ap (λ (xs : List (Name × Value)). given xs name) (sym taken)
    ∙ given_more (take i pairs) pair.0 pair.1 c.loop-pair.bound c.max-bound.result c.loop-pair.invariant greater.0 (omega (arith, greater.1, size)) name long
