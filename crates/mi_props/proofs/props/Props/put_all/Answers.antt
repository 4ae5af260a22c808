use Rattle.std.proofs.Common.{◌≡◌, ◌+◌, List, [], ◌∷◌, ◌++◌, take, sym, ap, ◌∙◌}
use Rattle.std.specs.Option.{option_or}
use Rattle.std.specs.FinMap.{get, insert}
use Rattle.std.proofs.lemmas.List.{take_more}
use Rattle.mi_text.specs.Maps.{Name}
use Rattle.mi_props.specs.Props.{Value, given}
use Rattle.mi_props.proofs.Values.{one_more}
use Rattle.mi_props.proofs.props.Props.put_all.Goals as goal

pub loop-pair-preserved : goal.loop-pair-preserved
loop-pair-preserved c = λ q.
    let pairs = c.args.pairs.now in
    let i = c.loop-pair.pair-index in
    let pair = c.pair-item.result in
    let put : c.put.new.self ≡ insert c.loop-pair.self pair.0 pair.1 = c.in_ok-put.ensures.ok ∙ ap (λ (k : Name). insert c.loop-pair.self k c.as_str-in-loop-pair.result.now) c.as_str.ensures ∙ ap (λ (v : Value). insert c.loop-pair.self pair.0 v) c.as_str-in-loop-pair.ensures in
    let taken : take i pairs ++ (pair.0, pair.1) ∷ [] ≡ take (i + 1) pairs = ap (λ (p : Name × Value). take i pairs ++ p ∷ []) c.pair-item.is ∙ sym (take_more pairs i pair c.loop-pair-test.true) in
    one_more c.args.self.now c.loop-pair.self c.put.new.self (take i pairs) pair.0 pair.1 put c.loop-pair.invariant q
    ∙ ap (λ (xs : List (Name × Value)). option_or (given xs q) (get c.args.self.now q)) taken
