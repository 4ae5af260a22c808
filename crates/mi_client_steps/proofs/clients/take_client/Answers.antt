use Rattle.std.proofs.Common.{[], ◌∷◌, refl}
use Rattle.mi_base.specs.Names.{client_name}
use Rattle.mi_steps.specs.Follows.{drop_touch}
use Rattle.mi_client_steps.proofs.clients.take_client.Goals as goal

pub returns-in-Ok-clause-row : goal.returns-in-Ok-clause-row
returns-in-Ok-clause-row c = λ held files. record {
  touches = drop_touch (client_name c.args.component.number c.args.product.number) ∷ [];
  gives = refl;
  makes = c.in-Ok.ensures.makes held files;
}
