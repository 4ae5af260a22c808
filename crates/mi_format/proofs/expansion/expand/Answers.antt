-- What is expanded is the value by whole groups, and what is refused is too deep. A text without an open mark is its own expansion.
use Rattle.std.proofs.Common.{ℕ, Ok, sym, ap, ◌∙◌}
use Rattle.mi_format.specs.Expansion.{expand_of}
use Rattle.mi_format.proofs.Grammar.{only_expansion}
use Rattle.mi_format.proofs.ValueLemmas.{limit_is}
use Rattle.mi_format.proofs.LawLemmas.{deep_is, fault_is, is_value, not_deep, groups_are}
use Rattle.mi_format.proofs.OpenMarkLemmas.{plain_value, plain_depth, plain_is}
use Rattle.mi_format.proofs.expansion.expand.Goals as goal

pub returns-then-not-has_open_mark-clause-value : goal.returns-then-not-has_open_mark-clause-value
returns-then-not-has_open_mark-clause-value g c =
    let L = g.E.Env.lookups c.args.env.now in
    plain_is L c.args.text.now c.utf8.text (sym c.has_open_mark.ensures ∙ c.if-not-has_open_mark.true) ∙ ap Ok (sym c.in_ok-copy_of.ensures)

pub returns-then-not-has_open_mark-clause-groups : goal.returns-then-not-has_open_mark-clause-groups
returns-then-not-has_open_mark-clause-groups g c =
    let L = g.E.Env.lookups c.args.env.now in
    groups_are L c.args.text.now c.in_ok-copy_of.field-0
    (c.in_ok-copy_of.ensures ∙ plain_value L c.args.text.now c.utf8.text (sym c.has_open_mark.ensures ∙ c.if-not-has_open_mark.true))

pub returns-then-not-has_open_mark-clause-only : goal.returns-then-not-has_open_mark-clause-only
returns-then-not-has_open_mark-clause-only g c = λ x e.
    let L = g.E.Env.lookups c.args.env.now in
    only_expansion L c.args.text.now x e
    ∙ sym (c.in_ok-copy_of.ensures ∙ plain_value L c.args.text.now c.utf8.text (sym c.has_open_mark.ensures ∙ c.if-not-has_open_mark.true))

pub returns-then-not-has_open_mark-clause-shallow : goal.returns-then-not-has_open_mark-clause-shallow
returns-then-not-has_open_mark-clause-shallow g c =
    not_deep c.args.text.now (plain_depth (g.E.Env.lookups c.args.env.now) c.args.text.now c.utf8.text (sym c.has_open_mark.ensures ∙ c.if-not-has_open_mark.true))

pub returns-then-deep-clause-value : goal.returns-then-deep-clause-value
returns-then-deep-clause-value g c = fault_is (g.E.Env.lookups c.args.env.now) c.args.text.now (sym c.in_ok-deep.ensures ∙ c.if-deep.true)

pub returns-then-deep-clause-deep : goal.returns-then-deep-clause-deep
returns-then-deep-clause-deep g c = λ _. deep_is c.args.text.now (sym c.in_ok-deep.ensures ∙ c.if-deep.true)

-- the greatest usize
abbrev most : ℕ
most = 18446744073709551615

pub returns-in-Some-clause-value : goal.returns-in-Some-clause-value
returns-in-Some-clause-value g c =
    let L = g.E.Env.lookups c.args.env.now in
    is_value L c.args.text.now c.in-Some.value (sym c.in_ok-deep.ensures ∙ c.if-deep.false) (limit_is most c.in-Some.value (expand_of L c.args.text.now) (sym c.in-Some.is ∙ c.in_ok-kept.ensures)).0

pub returns-in-Some-clause-groups : goal.returns-in-Some-clause-groups
returns-in-Some-clause-groups g c =
    let L = g.E.Env.lookups c.args.env.now in
    groups_are L c.args.text.now c.in-Some.value (limit_is most c.in-Some.value (expand_of L c.args.text.now) (sym c.in-Some.is ∙ c.in_ok-kept.ensures)).0

pub returns-in-Some-clause-only : goal.returns-in-Some-clause-only
returns-in-Some-clause-only g c = λ x e.
    let L = g.E.Env.lookups c.args.env.now in
    only_expansion L c.args.text.now x e ∙ sym (limit_is most c.in-Some.value (expand_of L c.args.text.now) (sym c.in-Some.is ∙ c.in_ok-kept.ensures)).0

pub returns-in-Some-clause-shallow : goal.returns-in-Some-clause-shallow
returns-in-Some-clause-shallow g c = not_deep c.args.text.now (sym c.in_ok-deep.ensures ∙ c.if-deep.false)
