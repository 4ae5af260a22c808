-- Where none leaves, nothing is asked of the set.
use Rattle.std.proofs.Common.{◌≡◌, true, false, sym, ◌∙◌}
use Rattle.std.proofs.lemmas.Result.{IfOk-weaker}
use Rattle.mi_clients.proofs.clients.count_guards.Goals as goal

pub returns-then-takes : goal.returns-then-takes
returns-then-takes g c = λ w asked is. IfOk-weaker c.guarded_values.result _ _ (λ set guards takes. guards) (c.guarded_values.ensures w asked)

pub returns-else-takes : goal.returns-else-takes
returns-else-takes g c = λ w asked is takes. let clash : false ≡ true = sym c.if-takes.false ∙ is ∙ takes in absurd cc
