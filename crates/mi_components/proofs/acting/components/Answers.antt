use Rattle.std.proofs.Common.{◌∙◌}
use Rattle.mi_image.specs.Items.{machine_over}
use Rattle.mi_schema.specs.declared.typed_rows.FeatureRow.{FeatureRow}
use Rattle.mi_schema.specs.RowsOf.{rows_in}
use Rattle.mi_components.proofs.ActionLemmas.{choices-kept}
use Rattle.mi_wishes.proofs.ChainLemmas.{own_keys}
use Rattle.mi_components.proofs.acting.components.Goals as goal

pub returns : goal.returns
unfolding rows_in
returns g c = λ held files given dirs level the_rows the_machine asked.
    let entries = c.args.loaded.now.feature.entries in
    c.in_ok-choices.ensures held files
    ∙ choices-kept given (g.E.Env.lookups c.args.env.now) dirs level (rows_in c.args.loaded.now) (machine_over held files c.args.former.now) c.in_ok-code.code.number c.args.asked.now.features.items c.in_ok-record.record.features c.in_ok-held.held
    the_rows the_machine c.in_ok-code.ensures (own_keys (λ (r : FeatureRow). r.feature) entries c.keys_stand.ensures.feature c.keys_apart.ensures.feature) asked (c.in_ok-record.ensures held files).features c.in_ok-held.ensures
