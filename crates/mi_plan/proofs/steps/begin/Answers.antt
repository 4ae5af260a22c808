-- The begun action, and what its step makes.
use Rattle.std.proofs.Common.{List, ℕ, [], ◌∷◌, ◌++◌, refl, ap, ◌∙◌}
use Rattle.mi_plan.proofs.ArmLemmas.{steps_result}
use Rattle.mi_plan.proofs.steps.begin.Goals as goal

pub returns-clause-steps : goal.returns-clause-steps
returns-clause-steps g c = λ v s.
    let k = c.args.work.now in
    steps_result (g.V.Volume.state c.args.vol.now).held (g.S.Source.files c.args.src.now) c.args.folder.now c.args.step k (record k { begun = c.push.new.self }) c.take.new.work c.take.result refl refl
    (c.in-Ok-push.ensures.items ∙ ap (λ (a : List ℕ). k.begun.items ++ a ∷ []) (c.in-Ok.ensures ∙ c.action.ensures)) (c.take.ensures.takes v s)
