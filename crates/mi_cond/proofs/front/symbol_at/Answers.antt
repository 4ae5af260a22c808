use Rattle.std.proofs.Common.{◌+◌, ◌≤◌, ◌-◌, List, [], ℕ, refl, sym, ap, ◌∙◌, subst, take, drop, length, arith}
use Rattle.std.proofs.lemmas.List.{take_rest, length-drop, length-take-le}
use Rattle.mi_cond.specs.declared.operand.Value.{Value}
use Rattle.mi_cond.specs.declared.token.Token.TheVariants.{Operand}
use Rattle.mi_cond.specs.declared.front.Front.TheVariants as front
use Rattle.mi_cond.specs.Lex.{is_name_byte}
use Rattle.mi_cond.specs.Moves.{InSymbol}
use Rattle.mi_cond.specs.Fronts.{Follows, WantsValue}
use Rattle.mi_cond.proofs.FrontLaws.{front_within}
use Rattle.mi_cond.proofs.FrontFinds.{symbol_found, symbol_lost, front_is_name}
use Rattle.mi_cond.proofs.front.symbol_at.Goals as goal

pub returns-then-n-eq0 : goal.returns-then-n-eq0
returns-then-n-eq0 c =
    let rest = c.args.rest.now in
    symbol_lost c.args.mark rest (take (length rest - 1) (drop 1 rest)) c.name_length-n.result c.requires (take_rest rest 1) c.name_length-n.ensures c.if-n-eq0.true

pub named-value-requires : goal.named-value-requires
named-value-requires c =
    let rest = c.args.rest.now in
    front_is_name (take (length rest - 1) (drop 1 rest)) c.name_length-n.result c.name_length-n.ensures

pub returns : goal.returns
returns c =
    let rest = c.args.rest.now in
    let text : List ℕ = take (length rest - 1) (drop 1 rest) in
    let n = c.name_length-n.result in
    let base = symbol_found c.args.mark rest text (take n text) n c.requires (take_rest rest 1) c.name_length-n.ensures (omega arith) refl in
    subst (λ (v : Value). Follows 1 (InSymbol c.args.mark []) WantsValue rest (front.Token (Operand v) (n + 1))) (sym c.named-value.ensures) base

pub slice_bounds-named-end : goal.slice_bounds-named-end
slice_bounds-named-end c =
    let rest = c.args.rest.now in
    let less = front_within is_name_byte (take (length rest - 1) (drop 1 rest)) in
    let within : c.name_length-n.result ≤ length (take (length rest - 1) (drop 1 rest)) = omega (arith, c.name_length-n.ensures) in
    omega (arith, length-take-le (c.name_length-n.result) (take (length rest - 1) (drop 1 rest)) within)

pub overflow_add-result : goal.overflow_add-result
overflow_add-result c =
    let rest = c.args.rest.now in
    let less = front_within is_name_byte (take (length rest - 1) (drop 1 rest)) in
    let short = ap length (take_rest rest 1) ∙ length-drop 1 rest in
    let some = c.requires in
    omega (arith, c.name_length-n.ensures)
