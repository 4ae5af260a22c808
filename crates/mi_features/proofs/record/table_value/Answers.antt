use Rattle.std.proofs.Common.{Option, [], ap, ◌∙◌}
use Rattle.std.specs.Prelude.{option_map, unwrap_or}
use Rattle.mi_schema.specs.declared.typed_rows.PropertyRow.{PropertyRow}
use Rattle.mi_schema.specs.RowsOf.{rows_in}
use Rattle.mi_wishes.proofs.RowLemmas.{lookup-row}
use Rattle.mi_features.proofs.record.table_value.Goals as goal

pub returns-in-Some : goal.returns-in-Some
unfolding rows_in
returns-in-Some c =
    c.as_str.ensures
    ∙ ap (λ (o : Option PropertyRow). unwrap_or (option_map (λ (r : PropertyRow). r.value) o) []) (c.in-Some.ensures.value ∙ lookup-row (λ (r : PropertyRow). r.property) c.args.loaded.now.property.entries c.keys_stand.ensures.property c.args.name.now)

pub returns-in-None : goal.returns-in-None
unfolding rows_in
returns-in-None c =
    ap (λ (o : Option PropertyRow). unwrap_or (option_map (λ (r : PropertyRow). r.value) o) []) (c.in-None.ensures.value ∙ lookup-row (λ (r : PropertyRow). r.property) c.args.loaded.now.property.entries c.keys_stand.ensures.property c.args.name.now)
