use Rattle.std.proofs.Common.{◌∙◌, ◌++◌, ◌∷◌, [], sym, ap, Option}
use Rattle.std.proofs.lemmas.List.{map-append}
use Rattle.mi_cond.specs.Tree.{Tree}
use Rattle.mi_rows.specs.Fields.{field_value, values_of}
use Rattle.mi_rows.specs.Rows.{◌or_else◌}
use Rattle.mi_rows.specs.Typed.{some_condition_in}
use Rattle.mi_rows.specs.Values.{Row}
use Rattle.mi_rows.proofs.FieldLemmas.{last_more}
use Rattle.mi_rows.proofs.row.add_field.Goals as goal

pub returns : goal.returns
returns c = λ row d. record {
  values = ap values_of c.in_ok-push.ensures.items ∙ map-append field_value c.args.fields.now.items (c.args.field ∷ []) ∙ ap (λ (r : Row). r ++ field_value c.args.field ∷ []) d.values;
  condition = c.keep.ensures.condition ∙ ap (λ (o : Option Tree). o or_else c.args.take.now.condition) c.requires.condition ∙ ap (λ (o : Option Tree). some_condition_in (field_value c.args.field) or_else o) d.condition ∙ sym (last_more row (field_value c.args.field));
  memory = c.keep.ensures.failed ∙ d.memory;
}
