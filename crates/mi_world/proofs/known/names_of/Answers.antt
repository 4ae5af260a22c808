use Rattle.std.proofs.Common.{◌≡◌, get_or, true, ap, ◌∙◌}
use Rattle.std.specs.FinMap.{insert}
use Rattle.mi_text.specs.Maps.{Name}
use Rattle.mi_world.proofs.RowLemmas.{none_set, names_more}
use Rattle.mi_world.proofs.known.names_of.Goals as goal

pub loop-name-init : goal.loop-name-init
loop-name-init c = λ q. none_set c.new-flags.result c.new-flags.ensures q

pub loop-name-preserved : goal.loop-name-preserved
loop-name-preserved c = λ q.
    let put : c.put.new.self ≡ insert c.loop-name.flags (get_or c.args.names.now c.loop-name.name-index c.name-item.result) true = c.in_ok-put.ensures ∙ ap (λ (k : Name). insert c.loop-name.flags k true) (c.as_str.ensures ∙ c.name-item.is) in
    names_more c.args.names.now c.loop-name.name-index c.name-item.result c.loop-name-test.true c.loop-name.flags c.put.new.self put c.loop-name.invariant q
