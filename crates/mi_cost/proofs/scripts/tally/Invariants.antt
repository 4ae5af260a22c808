use Rattle.std.proofs.Common.{◌≡◌, ◌≤◌, take}
use Rattle.mi_cost.specs.Tallies.{tally}
use Rattle.mi_cost.proofs.scripts.tally.Given as goal

-- what the scripts so far state
abbrev pub invariant-loop-script : goal.invariant-loop-script
invariant-loop-script l = record {
  sizes : l.sizes ≡ (tally (take l.script-index l.scripts)).0;
  entries : l.entries ≡ (tally (take l.script-index l.scripts)).1;
  few : l.entries ≤ l.script-index;
}
