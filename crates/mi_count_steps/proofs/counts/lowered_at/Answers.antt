-- By what stands there.
use Rattle.std.proofs.Common.{◌≡◌, Some, ap, sym, ◌∙◌}
use Rattle.std.specs.FinMap.{get}
use Rattle.std.proofs.lemmas.Result.{IfOk-weaker}
use Rattle.mi_base.specs.Spelling.{name_of}
use Rattle.mi_image.specs.declared.item.Item.TheVariants.{Whole}
use Rattle.mi_count_steps.proofs.CountLemmas.{lowered_whole, lowered_head, lowered_none, stands_so}
use Rattle.mi_count_steps.proofs.counts.lowered_at.Goals as goal

pub returns-in-Whole-clause-left : goal.returns-in-Whole-clause-left
returns-in-Whole-clause-left c = λ held files.
    let stands : get c.args.image.now c.args.name.now ≡ Some (Whole c.in-Whole.entry) = ap (get c.args.image.now) (sym c.as_str.ensures.text) ∙ sym c.in-Some.ensures.value ∙ ap Some c.in-Whole.is in
    IfOk-weaker c.lowered.result _ _ (λ o is. lowered_whole held files c.args.image.now c.args.name.now c.in-Whole.entry o stands is) c.lowered.ensures.left

pub returns-in-Whole-clause-right : goal.returns-in-Whole-clause-right
returns-in-Whole-clause-right c =
    let stands : get c.args.image.now c.args.name.now ≡ Some (Whole c.in-Whole.entry) = ap (get c.args.image.now) (sym c.as_str.ensures.text) ∙ sym c.in-Some.ensures.value ∙ ap Some c.in-Whole.is in
    let may = c.in-Some.ensures.right c.args.name.now (Whole c.in-Whole.entry) stands in
    IfOk-weaker c.lowered.result _ _ (λ o is. stands_so (name_of c.in-Whole.entry) c.args.name.now o may.named is) c.lowered.ensures.right

pub returns-in-Head-clause-left : goal.returns-in-Head-clause-left
returns-in-Head-clause-left c = λ held files.
    lowered_head held files c.args.image.now c.args.name.now c.in-Head.field-0 c.in-Head.field-1 (ap (get c.args.image.now) (sym c.as_str.ensures.text) ∙ sym c.in-Some.ensures.value ∙ ap Some c.in-Head.is)

pub returns-in-None-clause-left : goal.returns-in-None-clause-left
returns-in-None-clause-left c = λ held files.
    lowered_none held files c.args.image.now c.args.name.now (ap (get c.args.image.now) (sym c.as_str.ensures.text) ∙ sym c.in-None.ensures.value)
