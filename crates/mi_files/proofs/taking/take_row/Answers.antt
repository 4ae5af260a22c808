-- With its path, or refused.
use Rattle.std.proofs.Common.{Option, ap}
use Rattle.mi_base.specs.declared.answers.Fault.TheVariants.{BadPath}
use Rattle.mi_model.specs.Texts.{Text}
use Rattle.mi_model.specs.FilePaths.{takes_file}
use Rattle.mi_steps.specs.Makes.{plan_machine}
use Rattle.mi_files.specs.Taking.{path_effect}
use Rattle.mi_files.proofs.TakeLemmas.{row_refused_so}
use Rattle.mi_files.proofs.taking.take_row.Goals as goal

pub returns-in-Ok-clause-row : goal.returns-in-Ok-clause-row
returns-in-Ok-clause-row c = λ held files w guards. record {
  touches = takes_file w c.in-Some.path;
  gives = ap (λ (o : Option Text). path_effect w c.args.table.now c.args.number o (plan_machine held files c.args.plan.now)) c.in-Some.is;
  makes = c.in-Ok.ensures.makes held files w guards;
}

pub returns-in-None-clause-row : goal.returns-in-None-clause-row
returns-in-None-clause-row c = λ held files w guards.
    row_refused_so held files c.args.plan.now c.args.plan.now (Unit {0}) (path_effect w c.args.table.now c.args.number c.args.path) (BadPath c.args.table.now c.args.number) c.bad_path.result
    (ap (λ (o : Option Text). path_effect w c.args.table.now c.args.number o (plan_machine held files c.args.plan.now)) c.in-None.is) c.bad_path.ensures
