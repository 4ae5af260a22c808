use Rattle.std.proofs.Common.{true, ap, ◌∙◌, sym}
use Rattle.std.specs.FinMap.{insert}
use Rattle.mi_text.specs.Maps.{Name}
use Rattle.mi_world.specs.Ground.{is_set}
use Rattle.mi_world.proofs.RowLemmas.{held_not, held_so}
use Rattle.mi_world.proofs.known.hold.Goals as goal

pub returns-then-not-holds : goal.returns-then-not-holds
returns-then-not-holds c = held_not c.args.names.now c.args.held.now c.args.row.now (ap (is_set c.args.names.now) (sym c.as_str.ensures) ∙ sym c.holds.ensures ∙ c.if-not-holds.true)

pub returns : goal.returns
returns c =
    held_so c.args.names.now c.args.held.now c.put.new.self c.args.row.now (ap (is_set c.args.names.now) (sym c.as_str.ensures) ∙ sym c.holds.ensures ∙ c.if-not-holds.false)
    (c.in_ok-put.ensures ∙ ap (λ (k : Name). insert c.args.held.now k true) c.as_str-2.ensures)
