use Rattle.std.proofs.Common.{◌≡◌, true, false, ◌∙◌, ap, sym}
use Rattle.std.specs.Prelude.{is_some}
use Rattle.std.specs.FinMap.{get}
use Rattle.mi_image.specs.Items.{machine_over}
use Rattle.mi_image.specs.Overlays.{present_items}
use Rattle.mi_steps.specs.Makes.{plan_machine}
use Rattle.mi_steps.proofs.FollowLemmas.{drop_nothing}
use Rattle.mi_steps.proofs.StepLemmas.{held-over, drop_made}
use Rattle.mi_steps.proofs.plan.Plan.drop_name.Goals as goal

pub returns-then-not-is_held-clause-makes : goal.returns-then-not-is_held-clause-makes
returns-then-not-is_held-clause-makes c = λ held files.
    let none : is_some (get c.image.result.now c.args.name.now) ≡ false = sym c.is_held.ensures.held ∙ c.if-not-is_held.true in
    drop_nothing files (plan_machine held files c.args.self.now) c.args.self.now.script c.args.name.now
    (held-over held files (present_items c.args.self.now.overlay) c.args.name.now ∙ ap (λ m. is_some (get m c.args.name.now)) (sym c.image.ensures) ∙ none)

pub returns-clause-makes : goal.returns-clause-makes
returns-clause-makes c = λ held files.
    let some : is_some (get c.image.result.now c.args.name.now) ≡ true = sym c.is_held.ensures.held ∙ c.if-not-is_held.false in
    drop_made files (plan_machine held files c.args.self.now) (machine_over held files (present_items c.take.new.self)) c.args.self.now.script c.push_drop.new.script c.args.name.now
    (held-over held files (present_items c.args.self.now.overlay) c.args.name.now ∙ ap (λ m. is_some (get m c.args.name.now)) (sym c.image.ensures) ∙ some)
    c.in_ok-push_drop.ensures.ok
    (c.in_ok-take.ensures.machine held files)
