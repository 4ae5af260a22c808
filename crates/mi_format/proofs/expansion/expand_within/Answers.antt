-- The marks come first, then the length of the value. A text without an open mark is its own expansion.
use Rattle.std.proofs.Common.{List, ℕ, sym, subst, ◌∙◌}
use Rattle.std.specs.Prelude.{Result}
use Rattle.mi_format.specs.Answers.{ExpandsWithin}
use Rattle.mi_format.specs.declared.error.LimitFault.{LimitFault}
use Rattle.mi_format.specs.Expansion.{expand_of}
use Rattle.mi_format.proofs.ValueLemmas.{limit_is, none_is}
use Rattle.mi_format.proofs.LawLemmas.{limit_deep, limit_long, limit_value}
use Rattle.mi_format.proofs.OpenMarkLemmas.{plain_within}
use Rattle.mi_format.proofs.expansion.expand_within.Goals as goal

pub returns-then-not-has_open_mark : goal.returns-then-not-has_open_mark
returns-then-not-has_open_mark g c =
    let L = g.E.Env.lookups c.args.env.now in
    subst (λ (e : Result (List ℕ) LimitFault). ExpandsWithin c.copied_within.result e)
    (sym (plain_within L c.args.text.now c.utf8.text (sym c.has_open_mark.ensures ∙ c.if-not-has_open_mark.true) c.args.limit)) c.copied_within.ensures

pub returns-then-deep : goal.returns-then-deep
returns-then-deep g c = limit_deep c.args.limit (g.E.Env.lookups c.args.env.now) c.args.text.now (sym c.in_ok-deep.ensures ∙ c.if-deep.true)

pub returns-in-Some : goal.returns-in-Some
returns-in-Some g c =
    let L = g.E.Env.lookups c.args.env.now in
    let is = limit_is c.args.limit c.in-Some.value (expand_of L c.args.text.now) (sym c.in-Some.is ∙ c.in_ok-kept.ensures) in
    limit_value c.args.limit L c.args.text.now c.in-Some.value (sym c.in_ok-deep.ensures ∙ c.if-deep.false) is.0 is.1

pub returns-in-None : goal.returns-in-None
returns-in-None g c =
    let L = g.E.Env.lookups c.args.env.now in
    limit_long c.args.limit L c.args.text.now (sym c.in_ok-deep.ensures ∙ c.if-deep.false) (none_is c.args.limit (expand_of L c.args.text.now) (sym c.in-None.is ∙ c.in_ok-kept.ensures))
