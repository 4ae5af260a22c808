-- By what stands there.
use Rattle.std.proofs.Common.{◌≡◌, Some, ap, sym, ◌∙◌}
use Rattle.std.specs.FinMap.{get}
use Rattle.std.proofs.lemmas.Result.{IfOk-weaker}
use Rattle.mi_image.specs.declared.item.Item.TheVariants.{Whole}
use Rattle.mi_model.specs.RemoveRegistryValues.{less_items}
use Rattle.mi_records.specs.Removing.{left_of}
use Rattle.mi_records.proofs.LessLemmas.{whole_over, head_over, none_over, left_named}
use Rattle.mi_records.proofs.less.less_at.Goals as goal

pub returns-in-Whole-clause-left : goal.returns-in-Whole-clause-left
returns-in-Whole-clause-left c = λ held files.
    let stands : get c.args.image.now c.args.name.now ≡ Some (Whole c.in-Whole.entry) = ap (get c.args.image.now) (sym c.as_str.ensures.text) ∙ sym c.in-Some.ensures.value ∙ ap Some c.in-Whole.is in
    let at = whole_over held files c.args.image.now c.args.name.now c.in-Whole.entry stands in
    IfOk-weaker c.less.result _ _ (λ r is. ap (left_of r) at ∙ is ∙ sym (ap (less_items c.args.items.now) at)) c.less.ensures.left

pub returns-in-Whole-clause-right : goal.returns-in-Whole-clause-right
returns-in-Whole-clause-right c =
    let stands : get c.args.image.now c.args.name.now ≡ Some (Whole c.in-Whole.entry) = ap (get c.args.image.now) (sym c.as_str.ensures.text) ∙ sym c.in-Some.ensures.value ∙ ap Some c.in-Whole.is in
    let may = c.in-Some.ensures.right c.args.name.now (Whole c.in-Whole.entry) stands in
    IfOk-weaker c.less.result _ _ (λ r is. left_named c.in-Whole.entry c.args.name.now r may.named is) (c.less.ensures.right may.right)

pub returns-in-Head-clause-left : goal.returns-in-Head-clause-left
returns-in-Head-clause-left c = λ held files.
    head_over held files c.args.image.now c.args.name.now c.in-Head.field-0 c.in-Head.field-1 c.args.items.now (ap (get c.args.image.now) (sym c.as_str.ensures.text) ∙ sym c.in-Some.ensures.value ∙ ap Some c.in-Head.is)

pub returns-in-None-clause-left : goal.returns-in-None-clause-left
returns-in-None-clause-left c = λ held files.
    none_over held files c.args.image.now c.args.name.now c.args.items.now (ap (get c.args.image.now) (sym c.as_str.ensures.text) ∙ sym c.in-None.ensures.value)
