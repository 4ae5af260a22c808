-- Row by row.
use Rattle.std.proofs.Common.{◌∙◌}
use Rattle.mi_schema.specs.declared.typed_rows.FeatureRow.{FeatureRow}
use Rattle.mi_select.proofs.NameLemmas.{named_more, chosen_there}
use Rattle.mi_select.proofs.selecting.named_features.Goals as goal

pub loop-row-preserved : goal.loop-row-preserved
loop-row-preserved c = λ choice all.
    named_more (λ (f : FeatureRow). f.feature) choice c.args.rows.now c.loop-row.row-index c.row-item.result c.loop-row.named.items c.push.new.self.items c.in_ok-name.name _ c.loop-row-test.true c.row-item.is (c.loop-row.invariant choice all) c.in_ok-push.ensures.items
    (c.in_ok-name.ensures.ok ∙ c.as_str.ensures) (chosen_there c.args.choices.now choice c.args.rows.now c.loop-row.row-index c.row-item.result _ c.loop-row-test.true c.row-item.is all)
