-- The rows in key order, and what is chosen at their numbers.
use Rattle.std.proofs.Common.{◌≡◌, length, map, ap, ◌∙◌, List, true}
use Rattle.std.specs.FinMap.{is_sorted}
use Rattle.mi_text.specs.Maps.{Name, name_cmp}
use Rattle.mi_schema.specs.declared.typed_rows.FeatureRow.{FeatureRow}
use Rattle.mi_schema.specs.RowsOf.{rows_in, behind}
use Rattle.mi_wishes.specs.declared.choice.FeatureChoice.{FeatureChoice}
use Rattle.mi_select.specs.Selections.{as_named}
use Rattle.mi_select.proofs.OrderLemmas.{ordered-within, ordered-chosen, ordered-told, ordered-sorted}
use Rattle.mi_select.proofs.selecting.features_of.Goals as goal

abbrev key : FeatureRow → Name
key f = f.feature

pub named_features-requires : goal.named_features-requires
unfolding rows_in
named_features-requires c =
    let rows = behind c.args.loaded.now.feature.entries in
    ordered-within key rows c.deref.result.now (ap (map _) c.deref.ensures.value ∙ c.in_ok-rows.ensures.order key c.keys_stand.ensures.feature) (length c.args.choices.now) c.requires.all

pub returns : goal.returns
unfolding rows_in
returns c = λ choice at.
    let rows = behind c.args.loaded.now.feature.entries in
    let ordered = c.deref.result.now in
    let is = ap (map _) c.deref.ensures.value ∙ c.in_ok-rows.ensures.order key c.keys_stand.ensures.feature in
    let told = c.in_ok-named.ensures choice (ordered-chosen key rows ordered is c.args.choices.now choice at) ∙ ordered-told key rows ordered is (λ (f : FeatureRow). (f.feature, choice f)) in
    let rise : is_sorted name_cmp (map as_named c.in_ok-named.named.items) ≡ true = ap (λ (l : List (Name × FeatureChoice)). is_sorted name_cmp l) told ∙ ordered-sorted key rows choice in
    ap (map as_named) (c.in_ok-features.ensures.entries rise) ∙ told
