use Rattle.std.proofs.Common.{◌≡◌, ◌∙◌, arith}
use Rattle.mi_rows.specs.Fields.{values_of}
use Rattle.mi_rows.specs.Typed.{some_condition_in}
use Rattle.mi_rows.specs.Values.{cell_at}
use Rattle.mi_schema.proofs.ComponentLemmas.{component_condition}
use Rattle.mi_schema.proofs.typed_rows.ComponentRowTableRowText.read.Goals as goal

pub returns : goal.returns
returns c =
    let condition : c.some_condition.result ≡ some_condition_in (cell_at (values_of c.args.row.now) 4) =
    c.some_condition.ensures.condition ∙ c.text-2.ensures.condition ∙ c.text.ensures.condition ∙ c.requires.condition ∙ component_condition (values_of c.args.row.now) c.requires.suits in
    grind (arith, condition)
