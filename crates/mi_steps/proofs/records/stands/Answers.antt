use Rattle.std.proofs.Common.{◌≡◌, Some, ◌∙◌, ap, sym}
use Rattle.std.specs.FinMap.{get}
use Rattle.std.proofs.lemmas.Result.{IfOk-weaker}
use Rattle.mi_image.specs.declared.item.Item.{Item}
use Rattle.mi_image.specs.declared.item.Item.TheVariants.{Whole}
use Rattle.mi_steps.proofs.StepLemmas.{stands_whole, stands_none, no_head}
use Rattle.mi_steps.proofs.records.stands.Goals as goal

pub is_record-requires : goal.is_record-requires
is_record-requires c = (c.in-Some-Whole.ensures.right c.args.name.now (Whole c.in-Some-Whole.entry) (sym c.in-Some-Whole.ensures.value ∙ ap (λ (i : Item). Some i) c.in-Some-Whole.field-0-is)).right

pub returns-in-Some-Whole : goal.returns-in-Some-Whole
returns-in-Some-Whole c = λ held files.
    let at : get c.args.image.now c.args.name.now ≡ Some (Whole c.in-Some-Whole.entry) = sym c.in-Some-Whole.ensures.value ∙ ap (λ (i : Item). Some i) c.in-Some-Whole.field-0-is in
    IfOk-weaker c.is_record.result _ _ (λ b is. stands_whole c.args.image.now c.args.name.now c.args.own.now c.in-Some-Whole.entry b at is held files) c.is_record.ensures

pub returns-in-Some-Head : goal.returns-in-Some-Head
returns-in-Some-Head c = absurd (no_head c.args.image.now c.args.name.now c.in-Some-Head.field-0-0 c.in-Some-Head.field-0-1 c.in-Some-Head.ensures.right c.requires (sym c.in-Some-Head.ensures.value ∙ ap (λ (i : Item). Some i) c.in-Some-Head.field-0-is))

pub returns-in-None : goal.returns-in-None
returns-in-None c = stands_none c.args.image.now c.args.name.now c.args.own.now (sym c.in-None.ensures.value)
