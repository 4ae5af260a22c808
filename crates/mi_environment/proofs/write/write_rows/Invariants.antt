use Rattle.std.proofs.Common.{◌≡◌, List, ℕ, map, take}
use Rattle.mi_text.specs.Maps.{Map}
use Rattle.mi_model.specs.World.{World}
use Rattle.mi_model.specs.Asked.{lookups}
use Rattle.mi_model.specs.WriteEnvironmentStrings.{write_string}
use Rattle.mi_steps.specs.Makes.{plan_machine}
use Rattle.mi_steps.specs.Rows.{FollowsRows}
use Rattle.mi_records.specs.Keeps.{Keeps}
use Rattle.mi_records.specs.Order.{as_numbered}
use Rattle.mi_environment.proofs.write.write_rows.Given as goal

abbrev pub invariant-loop-row : goal.invariant-loop-row
invariant-loop-row g l = record {
  rows : (held files : Map (List ℕ)) (w : World) → lookups w ≡ g.E.Env.lookups l.env
      → FollowsRows files (plan_machine held files l.fn.plan) (plan_machine held files l.plan) l.fn.plan.script l.plan.script (map (λ r. write_string w (as_numbered r)) (take l.row-index l.rows));
  keeps : Keeps l.fn.plan l.plan;
}
