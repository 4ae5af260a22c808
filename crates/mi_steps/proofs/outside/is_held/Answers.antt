use Rattle.std.proofs.Common.{◌≡◌, true, ◌∙◌, ap, sym, List, ℕ}
use Rattle.std.specs.Prelude.{is_some}
use Rattle.std.specs.FinMap.{get}
use Rattle.mi_steps.proofs.OutsideLemmas.{held_outside}
use Rattle.mi_steps.proofs.StepLemmas.{held_alike}
use Rattle.mi_steps.proofs.outside.is_held.Goals as goal

pub returns-clause-outside : goal.returns-clause-outside
returns-clause-outside c = λ held.
    let some : is_some (get c.args.image.now c.as_str.result.now) ≡ true = held_alike c.get.result _ true c.get.ensures.value (sym c.is_some.ensures ∙ held) in
    held_outside c.args.image.now c.args.name.now c.get.ensures.right (ap (λ (q : List ℕ). is_some (get c.args.image.now q)) (sym c.as_str.ensures.text) ∙ some)
