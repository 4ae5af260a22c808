-- By what stands there.
use Rattle.std.proofs.Common.{Some, ap, sym, ◌∙◌}
use Rattle.std.specs.FinMap.{get}
use Rattle.mi_count_steps.proofs.CountLemmas.{number_whole, number_head, number_none}
use Rattle.mi_count_steps.proofs.counts.number_at.Goals as goal

pub returns-in-Whole : goal.returns-in-Whole
returns-in-Whole c = λ held files.
    c.number_in.ensures ∙ number_whole held files c.args.image.now c.args.name.now c.in-Whole.entry (ap (get c.args.image.now) (sym c.as_str.ensures.text) ∙ sym c.in-Some.ensures.value ∙ ap Some c.in-Whole.is)

pub returns-in-Head : goal.returns-in-Head
returns-in-Head c = λ held files.
    number_head held files c.args.image.now c.args.name.now c.in-Head.field-0 c.in-Head.field-1 (ap (get c.args.image.now) (sym c.as_str.ensures.text) ∙ sym c.in-Some.ensures.value ∙ ap Some c.in-Head.is)

pub returns-in-None : goal.returns-in-None
returns-in-None c = λ held files.
    number_none held files c.args.image.now c.args.name.now (ap (get c.args.image.now) (sym c.as_str.ensures.text) ∙ sym c.in-None.ensures.value)
