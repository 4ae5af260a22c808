use Rattle.std.proofs.Common.{◌≡◌, ◌∙◌, ap, sym, subst, eqb, true, false, List, ℕ, Some}
use Rattle.std.specs.List.{list_all}
use Rattle.mi_idt.specs.Fields.{unescaped}
use Rattle.mi_idt.proofs.Spelled.{text_none, text_some, text_plain, not_plain}
use Rattle.mi_idt.proofs.escape.text_of.Goals as goal

pub returns-then-is_empty-clause-text : goal.returns-then-is_empty-clause-text
returns-then-is_empty-clause-text c = text_none c.args.field.now (sym c.is_empty.ensures ∙ c.if-is_empty.true)

pub returns-then-is_plain-clause-text : goal.returns-then-is_plain-clause-text
returns-then-is_plain-clause-text c =
    let plain = subst (λ (f : List ℕ). list_all (λ b. eqb (unescaped b) b) f ≡ true) c.as_bytes.ensures.value (sym c.is_plain.ensures ∙ c.if-is_plain.true) in
    ap Some (sym (text_plain c.args.field.now plain)) ∙ text_some c.args.field.now (sym c.is_empty.ensures ∙ c.if-is_empty.false)

pub returns-clause-text : goal.returns-clause-text
returns-clause-text c = ap Some c.in_ok-text.ensures ∙ text_some c.args.field.now (sym c.is_empty.ensures ∙ c.if-is_empty.false)

pub returns-in_err-text-clause-plain : goal.returns-in_err-text-clause-plain
returns-in_err-text-clause-plain c =
    let other = subst (λ (f : List ℕ). list_all (λ b. eqb (unescaped b) b) f ≡ false) c.as_bytes.ensures.value (sym c.is_plain.ensures ∙ c.if-is_plain.false) in
    λ is. absurd (not_plain c.args.field.now (sym c.is_empty.ensures ∙ c.if-is_empty.false) other is)
