use Rattle.mi_schema.specs.declared.typed_rows.FeatureRow.{FeatureRow}
use Rattle.mi_schema.specs.RowsOf.{behind}
use Rattle.mi_schema.proofs.CheckLemmas.{are_rows}
use Rattle.mi_wishes.proofs.ChainLemmas.{own_keys, no_cycle}
use Rattle.mi_features.proofs.chain.order_of_features.Goals as goal

pub order_of-requires : goal.order_of-requires
order_of-requires c = are_rows (λ (r : FeatureRow). r.feature) (λ (r : FeatureRow). r.feature_parent) (behind c.args.loaded.now.feature.entries) c.args.parents.now c.requires.parents

pub unreachable-requires : goal.unreachable-requires
unreachable-requires c =
    let cycle = rw c.in-Err-Fault.field-0-is at c.in-Err-Fault.ensures.cycle in
    let entries = c.args.loaded.now.feature.entries in
    no_cycle entries c.keys_stand.ensures.feature (own_keys (λ (r : FeatureRow). r.feature) entries c.keys_stand.ensures.feature c.keys_apart.ensures.feature) c.parents_end.ensures.feature
    c.args.parents.now c.requires.parents cycle.0 cycle.2
