use Rattle.std.proofs.Common.{sym, ap, ◌∙◌}
use Rattle.std.specs.FinMap.{get}
use Rattle.mi_props.specs.Props.{Values}
use Rattle.mi_props.proofs.Values.{get-values_of}
use Rattle.mi_world.proofs.table.Table.get.Goals as goal

pub returns : goal.returns
returns c = c.get.ensures.value ∙ sym (get-values_of c.self.inside.values.entries c.args.name.now) ∙ ap (λ (m : Values). get m c.args.name.now) c.self.view_is
