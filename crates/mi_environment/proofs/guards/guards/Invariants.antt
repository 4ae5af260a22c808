use Rattle.mi_schema.specs.declared.typed_rows.EnvironmentRow.{EnvironmentRow}
use Rattle.mi_model.specs.RemoveEnvironmentStrings.{variable_named}
use Rattle.mi_model.specs.World.{World}
use Rattle.mi_records.specs.Choices.{IsAsked}
use Rattle.mi_row_steps.proofs.GuardLemmas.{Guarding}
use Rattle.mi_environment.proofs.guards.guards.Given as goal

abbrev pub invariant-loop-row : goal.invariant-loop-row
invariant-loop-row g l = (w : World) → IsAsked (g.S.Env.lookups l.seen) (g.S.Sees.choices l.seen) (g.S.Sees.rows l.seen) w → Guarding w (λ (r : EnvironmentRow). r.component) variable_named w.given.rows.environment l.set l.row-iterator
