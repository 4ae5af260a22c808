use Rattle.std.proofs.Common.{ap, ◌∙◌}
use Rattle.std.specs.Prelude.{string_bytes}
use Rattle.std.specs.FinMap.{insert}
use Rattle.mi_props.specs.Props.{Value, Values}
use Rattle.mi_text.specs.Maps.{Name}
use Rattle.mi_props.proofs.Values.{one_put}
use Rattle.mi_props.proofs.props.Props.put.Goals as goal

pub returns-clause-ok : goal.returns-clause-ok
returns-clause-ok c =
    one_put c.self.inside.values c.insert.new.self (string_bytes c.in_ok-name.name) c.in_ok-value.value c.in_ok-insert.ensures.updates
    ∙ ap (λ (m : Values). insert m (string_bytes c.in_ok-name.name) c.in_ok-value.value) c.self.view_is
    ∙ ap (λ (k : Name). insert c.args.self.now k c.in_ok-value.value) c.in_ok-name.ensures.ok
    ∙ ap (λ (v : Value). insert c.args.self.now c.args.name.now v) c.in_ok-value.ensures
