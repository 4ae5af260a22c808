use Rattle.std.proofs.Common.{◌≡◌, ◌||◌, Bool, true, false, List, ℕ, drop, sym, ap, ◌∙◌, arith, ◌+◌}
use Rattle.std.specs.Prelude.{nat_eq}
use Rattle.std.specs.List.{starts_with}
use Rattle.std.proofs.lemmas.List.{take_rest}
use Rattle.mi_cond.specs.Value.{cased, contains}
use Rattle.mi_cond.proofs.Comparing.{contains_more, contains_end}
use Rattle.mi_cond.proofs.compare.contains_folded.Goals as goal

pub returns-then-begins_with : goal.returns-then-begins_with
returns-then-begins_with c =
    let text = c.args.text.now in
    let part = cased true c.args.part.now in
    let here : starts_with nat_eq (cased true (drop c.loop-i.i text)) part ≡ true =
    ap (λ (u : List ℕ). starts_with nat_eq (cased true u) part) (sym (take_rest text c.loop-i.i)) ∙ sym c.begins_with.ensures ∙ c.if-begins_with.true in
    sym (sym c.loop-i.invariant ∙ contains_more true text part c.loop-i.i c.loop-i-test.true ∙ ap (λ (b : Bool). b || contains (cased true (drop (c.loop-i.i + 1) text)) part) here)

pub loop-i-preserved : goal.loop-i-preserved
loop-i-preserved c =
    let text = c.args.text.now in
    let part = cased true c.args.part.now in
    let here : starts_with nat_eq (cased true (drop c.loop-i.i text)) part ≡ false =
    ap (λ (u : List ℕ). starts_with nat_eq (cased true u) part) (sym (take_rest text c.loop-i.i)) ∙ sym c.begins_with.ensures ∙ c.if-begins_with.false in
    sym (contains_more true text part c.loop-i.i c.loop-i-test.true ∙ ap (λ (b : Bool). b || contains (cased true (drop (c.loop-i.i + 1) text)) part) here) ∙ c.loop-i.invariant

pub returns : goal.returns
returns c = c.is_empty.ensures ∙ sym (contains_end true c.args.text.now c.args.part.now c.loop-i.i (omega arith)) ∙ c.loop-i.invariant
