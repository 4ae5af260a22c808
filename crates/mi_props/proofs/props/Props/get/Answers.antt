use Rattle.std.proofs.Common.{◌≡◌, [], Option, sym, ap, ◌∙◌}
use Rattle.std.specs.Prelude.{unwrap_or}
use Rattle.std.specs.Option.{option_copied}
use Rattle.std.specs.FinMap.{get}
use Rattle.mi_props.specs.Props.{Value, Values}
use Rattle.mi_props.proofs.Values.{get-values_of}
use Rattle.mi_props.proofs.props.Props.get.Goals as goal

pub returns-in-Some : goal.returns-in-Some
returns-in-Some c =
    let here : get c.args.self.now c.args.name.now ≡ option_copied c.get.result = ap (λ (m : Values). get m c.args.name.now) (sym c.self.view_is) ∙ get-values_of c.self.inside.values.entries c.args.name.now ∙ sym c.get.ensures.value in
    c.as_str.ensures ∙ sym (ap (λ (o : Option Value). unwrap_or o []) (here ∙ ap option_copied c.in-Some.is))

pub returns-in-None : goal.returns-in-None
returns-in-None c =
    let here : get c.args.self.now c.args.name.now ≡ option_copied c.get.result = ap (λ (m : Values). get m c.args.name.now) (sym c.self.view_is) ∙ get-values_of c.self.inside.values.entries c.args.name.now ∙ sym c.get.ensures.value in
    sym (ap (λ (o : Option Value). unwrap_or o []) (here ∙ ap option_copied c.in-None.is))
