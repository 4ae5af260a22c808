use Rattle.std.proofs.Common.{Option, ap, subst, ◌∙◌}
use Rattle.std.specs.Prelude.{option_map}
use Rattle.mi_base.specs.declared.entry.Product.{Product}
use Rattle.mi_base.specs.Machine.{product_at}
use Rattle.mi_image.specs.Items.{machine_over}
use Rattle.mi_features.specs.Records.{IsRecord}
use Rattle.mi_features.proofs.record.record_of.Goals as goal

pub returns : goal.returns
returns c = λ held files.
    subst (λ (o : Option Product). IsRecord (option_map (λ (p : Product). p.features) o) c.in_ok-record.record)
    (c.product.ensures held files ∙ ap (product_at (machine_over held files c.args.former.now)) c.in_ok-code.ensures) c.in_ok-record.ensures
