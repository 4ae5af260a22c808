-- Over the rows of the phase.
use Rattle.std.proofs.Common.{map, ap, ◌∙◌}
use Rattle.mi_records.specs.Order.{as_numbered}
use Rattle.mi_shortcuts.proofs.uncreate.plan_remove_shortcuts.Goals as goal

pub returns-clause-phase : goal.returns-clause-phase
returns-clause-phase g c = λ held files w asked at.
    c.remove_and_prune.ensures.phase held files w asked (c.in_ok-guards.ensures w asked) (ap (map as_numbered) c.as_slice.ensures.value ∙ c.in_ok-rows.ensures w asked) at
