use Rattle.std.proofs.Common.{List, ℕ, [], ◌∷◌, subst}
use Rattle.mi_model.specs.ClientRows.{client_touch}
use Rattle.mi_steps.specs.Makes.{Makes}
use Rattle.mi_client_steps.proofs.clients.put_client.Goals as goal

pub returns-in-Ok-clause-makes : goal.returns-in-Ok-clause-makes
returns-in-Ok-clause-makes c = λ held files.
    subst (λ (path : List ℕ). Makes held files c.args.plan.now c.put.new.self (client_touch c.args.component path c.args.product.number ∷ [])) c.in_ok-key_path.ensures (c.in-Ok.ensures.makes held files)
