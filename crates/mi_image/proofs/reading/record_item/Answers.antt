use Rattle.std.proofs.Common.{List, ℕ, sym, ap, ◌∙◌}
use Rattle.mi_base.specs.Records.{entry_of}
use Rattle.mi_image.specs.declared.item.Item.TheVariants.{Whole}
use Rattle.mi_image.proofs.ReadLemmas.{whole_is, may_stand}
use Rattle.mi_image.proofs.reading.record_item.Goals as goal

pub returns-in-Ok-clause-tells : goal.returns-in-Ok-clause-tells
returns-in-Ok-clause-tells c = whole_is c.args.name.now c.args.bytes.now c.in-Ok.entry c.requires.other (sym (ap (λ (n : List ℕ). entry_of n c.args.bytes.now) c.as_str.ensures.text) ∙ c.in-Ok.ensures)

pub returns-in-Ok-clause-right : goal.returns-in-Ok-clause-right
returns-in-Ok-clause-right c = may_stand c.args.name.now c.args.bytes.now (Whole c.in-Ok.entry) (returns-in-Ok-clause-tells c)
