use Rattle.std.proofs.Common.{Some, map, sym, ap, ◌∙◌}
use Rattle.mi_base.specs.declared.answers.Fault.TheVariants.{MissingProperty}
use Rattle.mi_schema.specs.RowsOf.{behind}
use Rattle.mi_rows.specs.Values.{is_key_in}
use Rattle.mi_schema.specs.declared.typed_rows.PropertyRow.{PropertyRow}
use Rattle.mi_schema.proofs.CheckLemmas.{has_key, name_on, name_not, drop_map, map_drop}
use Rattle.mi_rows.proofs.ListLemmas.{map_next}
use Rattle.mi_schema.proofs.check.check_names.Goals as goal

pub returns-then-not-contains_key : goal.returns-then-not-contains_key
returns-then-not-contains_key c =
    let names = c.args.names.now in
    let rows = behind c.args.properties.now.entries in
    let found = c.contains_key.ensures ∙ has_key c.in_ok-key.key c.args.properties.now.entries _ c.requires ∙ ap (is_key_in (map (λ (r : PropertyRow). r.property) rows)) c.in_ok-key.ensures in
    name_not rows (map (λ n. n.now) names) c.loop-name.name-index _ (map_next (λ n. n.now) names c.loop-name.name-index _ c.loop-name-test.true) (drop_map rows (λ n. n.now) names c.loop-name.name-index c.loop-name.invariant) (sym found ∙ c.if-not-contains_key.true)
    ∙ ap (λ n. Some (MissingProperty n)) (sym c.in_ok-key.ensures)

pub loop-name-preserved : goal.loop-name-preserved
loop-name-preserved c =
    let names = c.args.names.now in
    let rows = behind c.args.properties.now.entries in
    let found = c.contains_key.ensures ∙ has_key c.in_ok-key.key c.args.properties.now.entries _ c.requires ∙ ap (is_key_in (map (λ (r : PropertyRow). r.property) rows)) c.in_ok-key.ensures in
    map_drop rows (λ n. n.now) names _
    (name_on rows (map (λ n. n.now) names) c.loop-name.name-index _ (map_next (λ n. n.now) names c.loop-name.name-index _ c.loop-name-test.true) (drop_map rows (λ n. n.now) names c.loop-name.name-index c.loop-name.invariant) (sym found ∙ c.if-not-contains_key.false))
