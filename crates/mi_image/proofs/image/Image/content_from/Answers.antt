use Rattle.std.proofs.Common.{Some, ap, sym, ◌∙◌}
use Rattle.std.proofs.lemmas.Result.{IfOk-weaker}
use Rattle.std.specs.FinMap.{get}
use Rattle.mi_image.specs.declared.item.Item.{Item}
use Rattle.mi_image.proofs.EffectLemmas.{content_there}
use Rattle.mi_image.proofs.image.Image.content_from.Goals as goal

pub returns : goal.returns
returns c held files other =
    let from = c.args.from.now in
    let at = ap (get c.args.self.now) (sym c.as_str.ensures.text) ∙ sym c.in-Some-Head.ensures.value ∙ ap (λ (i : Item). Some i) c.in-Some-Head.field-0-is in
    IfOk-weaker c.content_for_another.result _ _ (λ v is. is ∙ content_there held files c.args.self.now from c.in-Some-Head.field-0-0 c.in-Some-Head.content c.get.ensures.right at) (c.content_for_another.ensures held files other)
