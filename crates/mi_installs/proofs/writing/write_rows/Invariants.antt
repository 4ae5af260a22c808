use Rattle.std.proofs.Common.{◌≡◌, ◌≤◌, List, ℕ, map, take}
use Rattle.mi_text.specs.Maps.{Map}
use Rattle.mi_model.specs.World.{World}
use Rattle.mi_model.specs.FileVersions.{is_written}
use Rattle.mi_model.specs.InstallFiles.{installed_row}
use Rattle.mi_steps.specs.Makes.{plan_machine}
use Rattle.mi_steps.specs.Rows.{FollowsRows}
use Rattle.mi_records.specs.Choices.{IsAsked}
use Rattle.mi_installs.specs.Copying.{GrowsOn, StaysThere, AddsWhole}
use Rattle.mi_installs.specs.Placings.{as_placed}
use Rattle.mi_installs.proofs.writing.write_rows.Given as goal

abbrev pub invariant-loop-place : goal.invariant-loop-place
invariant-loop-place g l = record {
  rows : (held : Map (List ℕ)) (w : World) → IsAsked (g.E.Env.lookups l.seen) (g.E.Sees.choices l.seen) (g.E.Sees.rows l.seen) w → g.S.Source.told → w.given.files ≡ g.S.Source.files l.fn.src → l.decided ≡ map (λ p. is_written w p.row.now) l.rows
      → FollowsRows (g.S.Source.files l.fn.src) (plan_machine held (g.S.Source.files l.fn.src) l.fn.plan) (plan_machine held (g.S.Source.files l.fn.src) l.plan) l.fn.plan.script l.plan.script (map (λ p. installed_row w (as_placed p)) (take l.place l.rows));
  there : (held : Map (List ℕ)) → g.S.Source.told → StaysThere held (g.S.Source.files l.fn.src) l.fn.plan l.plan;
  lengths : g.S.Source.told → AddsWhole (g.S.Source.files l.fn.src) l.fn.plan.script l.plan.script;
  stays : g.S.Source.files l.src ≡ g.S.Source.files l.fn.src;
  counts : g.S.Source.faults l.fn.src ≤ g.S.Source.faults l.src;
  grows : GrowsOn l.fn.plan l.plan;
}
