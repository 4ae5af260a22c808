use Rattle.std.proofs.Common.{List, ap, ◌∙◌}
use Rattle.std.specs.Prelude.{String}
use Rattle.std.specs.declared.alloc.Global.{Global}
use Rattle.std.specs.FinMap.{get, get-empty}
use Rattle.mi_text.specs.Maps.{name_cmp}
use Rattle.mi_props.specs.Props.{Value, values_of}
use Rattle.mi_world.proofs.table.Table.new.Goals as goal

pub invariant_of-result : goal.invariant_of-result
invariant_of-result c = λ name long. ap (λ (es : List (String Global × Value)). get (values_of es) name) c.new.ensures.empty ∙ get-empty name_cmp name
