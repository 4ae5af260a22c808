use Rattle.std.proofs.Common.{List, ℕ, sym, ap, ◌∙◌}
use Rattle.mi_text.specs.Bytes.{AreBytes}
use Rattle.mi_text.proofs.ByteLemmas.{from_index}
use Rattle.mi_base.specs.Records.{file_head_of}
use Rattle.mi_image.specs.declared.item.Content.TheVariants.{Own}
use Rattle.mi_image.specs.declared.item.Item.TheVariants.{Head}
use Rattle.mi_image.proofs.ReadLemmas.{head_is, no_head_is, record_from, may_stand}
use Rattle.mi_image.proofs.reading.head_item.Goals as goal

pub returns-in-Ok-clause-tells : goal.returns-in-Ok-clause-tells
returns-in-Ok-clause-tells c whole good len start =
    head_is c.args.name.now whole c.in-Ok.head c.requires.file good (sym (ap (λ (n : List ℕ). file_head_of n whole) c.as_str.ensures.text) ∙ c.in-Ok.ensures whole len start)

pub returns-in-Ok-clause-right : goal.returns-in-Ok-clause-right
returns-in-Ok-clause-right c =
    let front : AreBytes c.args.front.now = from_index c.args.front.now (λ i. (c.type_inv.front i).fits) in
    let whole = record_from c.args.front.now c.args.size front c.requires.within in
    may_stand c.args.name.now whole.0 (Head c.in-Ok.head Own) (returns-in-Ok-clause-tells c whole.0 whole.1 whole.2 whole.3)

pub returns-in_ok-copy-in-Err-Fault-clause-tells : goal.returns-in_ok-copy-in-Err-Fault-clause-tells
returns-in_ok-copy-in-Err-Fault-clause-tells c whole good len start =
    (c.in_ok-copy-in-Err-Fault.ensures, no_head_is c.args.name.now whole c.in-Err-Fault.field-0-0 c.requires.file good (sym (ap (λ (n : List ℕ). file_head_of n whole) c.as_str.ensures.text) ∙ (rw c.in-Err-Fault.field-0-is at (c.in-Err-Fault.ensures whole len start))))
