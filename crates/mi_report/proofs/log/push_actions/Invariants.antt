use Rattle.std.proofs.Common.{◌≡◌, ◌++◌, drop}
use Rattle.std.specs.List.{flat_map}
use Rattle.mi_model.specs.Lines.{action_line}
use Rattle.mi_report.proofs.log.push_actions.Given as goal

abbrev pub invariant-loop-name : goal.invariant-loop-name
invariant-loop-name l = l.out.items ++ flat_map action_line (drop l.name-index l.names) ≡ l.fn.out.items ++ flat_map action_line l.names
