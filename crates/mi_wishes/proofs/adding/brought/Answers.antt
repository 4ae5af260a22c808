use Rattle.std.proofs.Common.{◌≡◌, List, Bool, length, ap, ◌∙◌}
use Rattle.mi_schema.specs.declared.typed_rows.FeatureRow.{FeatureRow}
use Rattle.mi_schema.specs.RowsOf.{rows_in, behind}
use Rattle.mi_schema.proofs.CheckLemmas.{are_rows}
use Rattle.mi_wishes.specs.Marks.{is_marked}
use Rattle.mi_wishes.proofs.ChainLemmas.{own_keys}
use Rattle.mi_wishes.proofs.LineLemmas.{written_all, brought_all}
use Rattle.mi_wishes.proofs.adding.brought.Goals as goal

pub mark_up-requires-clause-rows : goal.mark_up-requires-clause-rows
mark_up-requires-clause-rows c = are_rows (λ (r : FeatureRow). r.feature) (λ (r : FeatureRow). r.feature_parent) (behind c.args.loaded.now.feature.entries) c.args.parents.now c.requires.parents

pub returns-clause-brought : goal.returns-clause-brought
unfolding rows_in
returns-clause-brought c = λ L recorded level text place f wishes list there.
    let rows = rows_in c.args.loaded.now in
    let entries = c.args.loaded.now.feature.entries in
    let items = c.in_ok-marks.marks.items in
    let new = c.mark_up.new.marks in
    let size : length new ≡ length items = c.mark_up.ensures.size ∙ ap length c.deref_mut.ensures.value in
    ap (λ (ms : List Bool). is_marked ms place) (written_all items new c.in_ok-marks.marks.len c.in_ok-marks.marks.ok.0 size)
    ∙ brought_all rows L recorded level c.args.parents.now c.args.order.now c.requires.parents c.requires.order (own_keys (λ (r : FeatureRow). r.feature) entries c.keys_stand.ensures.feature c.keys_apart.ensures.feature)
    c.args.wishes.now text c.args.list.now c.deref_mut.result.now new wishes list (c.deref_mut.ensures.value ∙ c.in_ok-marks.ensures) c.mark_up.ensures.up place f there
