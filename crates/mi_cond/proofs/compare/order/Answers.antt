use Rattle.std.proofs.Common.{◌≤◌, ◌⊎◌, inl, inr, length, get_or, sym, ap, ◌∙◌, arith}
use Rattle.std.specs.Ordering.{nat_cmp, is_ne}
use Rattle.std.proofs.lemmas.Bool.{cases_lt}
use Rattle.mi_cond.proofs.Comparing.{letter_of, letters_cmp, order_more, order_end, then_first, then_second}
use Rattle.mi_cond.proofs.compare.order.Goals as goal

pub returns-then-is_ne : goal.returns-then-is_ne
returns-then-is_ne c =
    let i = c.loop-i.i in
    let first = letter_of c.args.folds (get_or c.args.left.now i 0) in
    let second = letter_of c.args.folds (get_or c.args.right.now i 0) in
    let is = letters_cmp c.cmp-order.result _ _ first second c.cmp-order.ensures c.letter.ensures c.letter-in-loop-i.ensures in
    let apart = sym (ap is_ne is) ∙ sym c.is_ne.ensures ∙ c.if-is_ne.true in
    is ∙ sym (order_more c.args.folds c.args.left.now c.args.right.now i (omega arith) (omega arith) ∙ then_first (nat_cmp first second) _ apart) ∙ c.loop-i.invariant

pub loop-i-preserved : goal.loop-i-preserved
loop-i-preserved c =
    let i = c.loop-i.i in
    let first = letter_of c.args.folds (get_or c.args.left.now i 0) in
    let second = letter_of c.args.folds (get_or c.args.right.now i 0) in
    let is = letters_cmp c.cmp-order.result c.letter.result c.letter-in-loop-i.result first second c.cmp-order.ensures c.letter.ensures c.letter-in-loop-i.ensures in
    let same = sym (ap is_ne is) ∙ sym c.is_ne.ensures ∙ c.if-is_ne.false in
    sym (order_more c.args.folds c.args.left.now c.args.right.now i (omega arith) (omega arith) ∙ then_second (nat_cmp first second) _ same) ∙ c.loop-i.invariant

pub returns : goal.returns
returns c =
    let left = c.args.left.now in
    let right = c.args.right.now in
    let ends : (length left ≤ c.loop-i.i) ⊎ (length right ≤ c.loop-i.i) =
    elim (cases_lt (length left) (length right)) [
      | inl less ↦ inl (omega arith)
      | inr more ↦ inr (omega arith)
    ] in
    c.cmp.ensures ∙ sym (order_end c.args.folds left right c.loop-i.i (omega arith) (omega arith) ends) ∙ c.loop-i.invariant
