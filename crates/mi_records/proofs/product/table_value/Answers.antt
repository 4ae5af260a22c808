-- The row of the name, if there is one.
use Rattle.std.proofs.Common.{Option, [], ap, ◌∙◌}
use Rattle.std.specs.Prelude.{option_map, unwrap_or}
use Rattle.mi_schema.specs.declared.typed_rows.PropertyRow.{PropertyRow}
use Rattle.mi_schema.specs.RowsOf.{rows_in}
use Rattle.mi_records.proofs.KeyedLemmas.{row_at_key}
use Rattle.mi_records.proofs.product.table_value.Goals as goal

pub returns-in-Some : goal.returns-in-Some
unfolding rows_in
returns-in-Some c =
    c.as_str.ensures
    ∙ ap (λ (o : Option PropertyRow). unwrap_or (option_map (λ (r : PropertyRow). r.value) o) []) (c.in-Some.ensures.value ∙ row_at_key (λ (r : PropertyRow). r.property) c.args.loaded.now.property.entries c.args.name.now c.keys_stand.ensures.property)

pub returns-in-None : goal.returns-in-None
unfolding rows_in
returns-in-None c =
    ap (λ (o : Option PropertyRow). unwrap_or (option_map (λ (r : PropertyRow). r.value) o) []) (c.in-None.ensures.value ∙ row_at_key (λ (r : PropertyRow). r.property) c.args.loaded.now.property.entries c.args.name.now c.keys_stand.ensures.property)
