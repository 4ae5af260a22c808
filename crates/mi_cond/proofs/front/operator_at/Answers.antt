use Rattle.std.proofs.Common.{◌+◌, ◌≤◌, ◌∙◌, length, sym, arith}
use Rattle.std.proofs.lemmas.List.{length-take-le}
use Rattle.mi_cond.specs.Lex.{is_name_byte}
use Rattle.mi_cond.proofs.FrontLaws.{front_within}
use Rattle.mi_cond.proofs.FrontFinds.{operator_first, operator_more, operator_lost, operator_found, front_is_name}
use Rattle.mi_cond.proofs.front.operator_at.Goals as goal

pub loop-i-init : goal.loop-i-init
loop-i-init c = operator_first c.args.rest.now c.requires.stands

pub returns-then-not-begins_operator : goal.returns-then-not-begins_operator
returns-then-not-begins_operator c = operator_lost c.args.rest.now c.loop-i.i c.name_length-n.result c.name_length-n.ensures (omega arith) c.loop-i.invariant (sym c.begins_operator.ensures ∙ c.if-not-begins_operator.true)

pub loop-i-preserved : goal.loop-i-preserved
loop-i-preserved c = operator_more c.args.rest.now c.loop-i.i c.loop-i.invariant (sym c.begins_operator.ensures ∙ c.if-not-begins_operator.false)

pub word-token-requires : goal.word-token-requires
word-token-requires c = front_is_name c.args.rest.now c.name_length-n.result c.name_length-n.ensures

pub returns : goal.returns
returns c = operator_found c.args.rest.now c.word-token.result c.name_length-n.result c.loop-i.i c.name_length-n.ensures (omega (arith, c.requires.begins)) (omega arith) c.loop-i.invariant c.word-token.ensures

pub slice_bounds-word-end : goal.slice_bounds-word-end
slice_bounds-word-end c =
    let less = front_within is_name_byte (c.args.rest.now) in
    let within : c.name_length-n.result ≤ length (c.args.rest.now) = omega (arith, c.name_length-n.ensures) in
    omega (arith, length-take-le (c.name_length-n.result) (c.args.rest.now) within)

pub slice_bounds-begins_operator-end : goal.slice_bounds-begins_operator-end
slice_bounds-begins_operator-end c =
    let less = front_within is_name_byte (c.args.rest.now) in
    let within : c.loop-i.i + 1 ≤ length (c.args.rest.now) = omega (arith, c.name_length-n.ensures) in
    omega (arith, length-take-le (c.loop-i.i + 1) (c.args.rest.now) within)
