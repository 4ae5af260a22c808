use Rattle.std.proofs.Common.{length, ap, ◌∙◌, List}
use Rattle.std.specs.Prelude.{codes, slice_get}
use Rattle.std.proofs.lemmas.List.{length-map}
use Rattle.mi_schema.specs.RowsOf.{rows_in, behind}
use Rattle.mi_wishes.specs.declared.own.Line.{Line}
use Rattle.mi_wishes.proofs.ChainLemmas.{keyed}
use Rattle.mi_features.proofs.asking.choices_of.Goals as goal

pub choices_in-requires : goal.choices_in-requires
unfolding rows_in
choices_in-requires c =
    let rows = behind c.args.loaded.now.feature.entries in
    ap length c.deref-8.ensures.value ∙ c.in_ok-lines.ensures.size ∙ ap length c.deref-6.ensures.value ∙ ap length c.in_ok-parents.ensures.parents ∙ length-map rows (keyed rows)

pub returns : goal.returns
returns c = λ L recorded level w. c.in_ok-choices.ensures L recorded level w (λ place f at.
    ap (λ (ls : List Line). slice_get ls place) c.deref-8.ensures.value
    ∙ c.in_ok-lines.ensures.lines L recorded level place f w (record {
      local = λ p r there. c.in_ok-local.ensures.brought L recorded level (L.property (codes "ADDLOCAL")) p r w w.lists.add_local there;
      by_default = λ p r there. c.in_ok-by_default.ensures.brought L recorded level (L.property (codes "ADDDEFAULT")) p r w w.lists.add_default there;
    }) at)
