-- The row at the place, if there is one.
use Rattle.std.proofs.Common.{◌≡◌, Bool, sym, ap, ◌∙◌}
use Rattle.std.specs.FinMap.{insert}
use Rattle.mi_text.specs.Maps.{Name}
use Rattle.mi_schema.specs.declared.typed_rows.FeatureRow.{FeatureRow}
use Rattle.mi_schema.specs.RowsOf.{rows_in}
use Rattle.mi_world.specs.Ground.{is_set}
use Rattle.mi_world.proofs.RowLemmas.{told_more, told_none}
use Rattle.mi_world.proofs.known.tell_recorded.Goals as goal

pub returns-in_ok-put-in-Some : goal.returns-in_ok-put-in-Some
returns-in_ok-put-in-Some c =
    let row = c.in-Some.row.now in
    let put : c.put.new.self ≡ insert c.args.flags.now row.feature (is_set c.args.names.now row.feature) =
    c.in_ok-put-in-Some.ensures ∙ ap (λ (k : Name). insert c.args.flags.now k c.holds-recorded.result) c.as_str-in-Some.ensures
    ∙ ap (λ (b : Bool). insert c.args.flags.now row.feature b) (c.holds-recorded.ensures ∙ ap (is_set c.args.names.now) c.as_str.ensures) in
    told_more (λ (r : FeatureRow). r.feature) (λ r. is_set c.args.names.now r.feature) (rows_in c.args.loaded.now).feature c.args.place c.args.flags.now c.put.new.self row (sym c.in-Some.ensures) put

pub returns-in-None : goal.returns-in-None
returns-in-None c = told_none (λ (r : FeatureRow). r.feature) (λ r. is_set c.args.names.now r.feature) (rows_in c.args.loaded.now).feature c.args.place c.args.flags.now (sym c.in-None.ensures)
