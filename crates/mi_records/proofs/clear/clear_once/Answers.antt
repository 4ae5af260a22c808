-- A key that was cleared is passed over, and another one is cleared and noted.
use Rattle.std.proofs.Common.{ap, sym, ◌∙◌}
use Rattle.std.specs.BTreeSet.{contains}
use Rattle.mi_text.specs.Maps.{name_cmp}
use Rattle.mi_model.specs.RegistryGuards.{place_of_key}
use Rattle.mi_steps.specs.Makes.{plan_machine}
use Rattle.mi_records.proofs.CleanLemmas.{clear_again, one_clear}
use Rattle.mi_records.proofs.clear.clear_once.Goals as goal

pub returns-then-contains-clause-makes : goal.returns-then-contains-clause-makes
returns-then-contains-clause-makes c = λ guarded held files guards clear.
    let m = plan_machine held files c.args.plan.now in
    clear_again guarded files m c.args.plan.now.script (place_of_key c.args.place.now) (clear (place_of_key c.args.place.now)
    (ap (contains name_cmp c.args.cleared.now) (sym c.in_ok-key.ensures) ∙ sym c.contains.ensures ∙ c.if-contains.true))

pub returns-clause-clear : goal.returns-clause-clear
returns-clause-clear c = λ guarded held files guards clear.
    let made = c.in_ok-clear_key.ensures.makes guarded held files guards in
    one_clear guarded (plan_machine held files c.args.plan.now) (plan_machine held files c.clear_key.new.plan) c.args.cleared.now c.insert.new.self c.in_ok-key.key (place_of_key c.args.place.now) c.in_ok-key.ensures (λ p. c.in_ok-insert.ensures.updates.0 p) made.machine clear
