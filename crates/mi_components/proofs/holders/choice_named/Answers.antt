use Rattle.std.proofs.Common.{List, option_and_then, ap, ◌∙◌}
use Rattle.std.specs.Prelude.{slice_get}
use Rattle.std.specs.Map.{keys_of}
use Rattle.mi_text.specs.Maps.{Name}
use Rattle.mi_schema.specs.declared.typed_rows.FeatureRow.{FeatureRow}
use Rattle.mi_schema.specs.Checks.{row_with}
use Rattle.mi_schema.specs.RowsOf.{rows_in}
use Rattle.mi_schema.proofs.CheckLemmas.{place_of_key}
use Rattle.mi_wishes.proofs.RowLemmas.{keys-own}
use Rattle.mi_components.proofs.holders.choice_named.Goals as goal

pub returns-in-Some : goal.returns-in-Some
unfolding rows_in
returns-in-Some c =
    let entries = c.args.loaded.now.feature.entries in
    c.choice_at.ensures ∙ ap (option_and_then (slice_get c.args.asked.now.features.items)) (c.in-Some.ensures.index ∙ place_of_key c.args.feature.now (keys_of entries) ∙ ap (λ (ks : List Name). row_with ks c.args.feature.now) (keys-own (λ (r : FeatureRow). r.feature) entries c.keys_stand.ensures.feature))

pub returns-in-None : goal.returns-in-None
unfolding rows_in
returns-in-None c =
    let entries = c.args.loaded.now.feature.entries in
    ap (option_and_then (slice_get c.args.asked.now.features.items)) (c.in-None.ensures.index ∙ place_of_key c.args.feature.now (keys_of entries) ∙ ap (λ (ks : List Name). row_with ks c.args.feature.now) (keys-own (λ (r : FeatureRow). r.feature) entries c.keys_stand.ensures.feature))
