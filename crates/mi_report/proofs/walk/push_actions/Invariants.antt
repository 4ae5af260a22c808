use Rattle.std.proofs.Common.{◌≡◌, ◌++◌, drop, length}
use Rattle.std.specs.List.{flat_map}
use Rattle.mi_model.specs.Lines.{action_line}
use Rattle.mi_report.specs.WalkLogs.{ends_from}
use Rattle.mi_report.proofs.walk.push_actions.Given as goal

abbrev pub invariant-loop-name : goal.invariant-loop-name
invariant-loop-name l = record {
  text : l.text.items ++ flat_map action_line (drop l.name-index l.names) ≡ l.fn.text.items ++ flat_map action_line l.names;
  ends : l.ends.items ++ ends_from (length l.text.items) (drop l.name-index l.names) ≡ l.fn.ends.items ++ ends_from (length l.fn.text.items) l.names;
}
