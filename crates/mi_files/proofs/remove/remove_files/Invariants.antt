use Rattle.std.proofs.Common.{◌≡◌, List, ℕ, map, take}
use Rattle.mi_text.specs.Maps.{Map}
use Rattle.mi_model.specs.World.{World}
use Rattle.mi_model.specs.FilePaths.{is_guarded_file}
use Rattle.mi_model.specs.RemoveFiles.{removed_file}
use Rattle.mi_steps.specs.Makes.{plan_machine}
use Rattle.mi_steps.specs.Rows.{FollowsRows}
use Rattle.mi_records.specs.Choices.{IsAsked}
use Rattle.mi_records.specs.Keeps.{Keeps}
use Rattle.mi_records.specs.Order.{as_numbered}
use Rattle.mi_records.specs.Removing.{Guards}
use Rattle.mi_files.specs.Taking.{folder_above, touched_more}
use Rattle.mi_files.proofs.remove.remove_files.Given as goal

abbrev pub invariant-loop-row : goal.invariant-loop-row
invariant-loop-row g l = record {
  rows : (held files : Map (List ℕ)) (w : World) → IsAsked (g.E.Env.lookups l.seen) (g.E.Sees.choices l.seen) (g.E.Sees.rows l.seen) w → Guards l.guards (is_guarded_file w)
      → FollowsRows files (plan_machine held files l.fn.plan) (plan_machine held files l.plan) l.fn.plan.script l.plan.script (map (λ r. removed_file w (as_numbered r)) (take l.row-index l.rows));
  touched : (w : World) → IsAsked (g.E.Env.lookups l.seen) (g.E.Sees.choices l.seen) (g.E.Sees.rows l.seen) w → l.touched.items ≡ touched_more (λ r. folder_above w r.1.now) (take l.row-index l.rows) l.fn.touched.items;
  keeps : Keeps l.fn.plan l.plan;
}
