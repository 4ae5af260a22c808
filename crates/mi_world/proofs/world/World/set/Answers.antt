use Rattle.std.proofs.Common.{sym, ap, ◌∙◌, Ok}
use Rattle.mi_props.specs.Props.{Values}
use Rattle.mi_model.specs.World as model
use Rattle.mi_base.specs.declared.answers.Fault.{Fault}
use Rattle.std.specs.Prelude.{Result}
use Rattle.mi_world.specs.Seen.{world_over}
use Rattle.mi_world.proofs.WorldLemmas.{set_so}
use Rattle.mi_world.proofs.world.World.set.Goals as goal

pub returns-clause-set : goal.returns-clause-set
returns-clause-set c = λ held files g action.
    let w = world_over held files g c.args.self.now.seen c.args.self.now.plan in
    set_so action c.args.name.now c.args.value.now w c.in_ok-set.ensures.accepted
    ∙ ap (λ (v : Values). let r : Result model.World Fault = Ok (record w { props = v }) in r) (sym c.in_ok-set.ensures.ok)
