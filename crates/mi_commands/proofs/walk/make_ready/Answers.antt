use Rattle.std.proofs.Common.{List, ℕ, map, length, arith, ap, ◌∙◌, subst}
use Rattle.mi_undo.specs.Names.{most_entries}
use Rattle.mi_plan.specs.declared.segment.Segment.{Segment}
use Rattle.mi_plan.specs.Made.{as_planned}
use Rattle.mi_report.specs.WalkLogs.{IsMadeFor}
use Rattle.mi_commands.proofs.walk.make_ready.Goals as goal

pub returns : goal.returns
unfolding most_entries
returns c = record {
  log = subst (λ (names : List (List ℕ)). IsMadeFor c.args.settled names c.args.plan.now.refusal c.in_ok-log.log) c.as_slice-3.ensures.value c.in_ok-log.ensures;
  segments = c.in_ok-segments.ensures ∙ ap (λ (l : List Segment). map as_planned l) c.as_slice-2.ensures.value;
  few = omega arith;
  begun = c.in_ok-begun.ensures ∙ ap (λ (names : List (List ℕ)). length names) c.as_slice.ensures.value;
}
