use Rattle.std.proofs.Common.{sym, ap, ◌∙◌, ◌||◌}
use Rattle.std.specs.Prelude.{is_some}
use Rattle.mi_schema.specs.declared.typed_rows.FeatureRow.{FeatureRow}
use Rattle.mi_schema.specs.RowsOf.{rows_in, behind}
use Rattle.mi_schema.specs.TableRows.{row_of}
use Rattle.mi_wishes.proofs.RowLemmas.{lookup-row}
use Rattle.mi_wishes.proofs.list.is_known.Goals as goal

pub returns-else-is_all : goal.returns-else-is_all
unfolding rows_in
returns-else-is_all c =
    c.contains_key.ensures
    ∙ ap is_some (lookup-row (λ (r : FeatureRow). r.feature) c.args.loaded.now.feature.entries c.keys_stand.ensures.feature c.args.item.now)
    ∙ sym (ap (λ b. b || is_some (row_of (λ (r : FeatureRow). r.feature) (behind c.args.loaded.now.feature.entries) c.args.item.now)) (sym c.is_all.ensures ∙ c.if-is_all.false))
