use Rattle.std.proofs.Common.{List, ℕ}
use Rattle.mi_text.specs.Maps.{Map}
use Rattle.mi_steps.specs.Makes.{plan_machine}
use Rattle.mi_records.specs.Keeps.{Keeps}
use Rattle.mi_files.proofs.ParentLemmas.{Along}
use Rattle.mi_files.proofs.parents.make_folders.Given as goal

abbrev pub invariant-loop-place : goal.invariant-loop-place
invariant-loop-place l = record {
  along : (held files : Map (List ℕ)) → Along files (plan_machine held files l.fn.plan) (plan_machine held files l.plan) l.fn.plan.script l.plan.script l.folder l.place;
  keeps : Keeps l.fn.plan l.plan;
}
