-- In its folder, or refused.
use Rattle.std.proofs.Common.{Option, ap}
use Rattle.std.specs.Prelude.{codes, Some}
use Rattle.mi_base.specs.declared.answers.Fault.TheVariants.{BadPath}
use Rattle.mi_dirs.specs.Places.{Folder}
use Rattle.mi_model.specs.RemoveFiles.{takes_at, takes_in}
use Rattle.mi_records.specs.Order.{as_numbered}
use Rattle.mi_files.proofs.TakeLemmas.{row_refused_so}
use Rattle.mi_files.proofs.remove.remove_in_some.Goals as goal

pub returns-in-Ok-clause-row : goal.returns-in-Ok-clause-row
returns-in-Ok-clause-row g c = λ held files w asked guards. record {
  touches = takes_in w c.args.row.1.now c.in-Some.folder c.args.row.1.now.file_name;
  gives = ap (λ (o : Option Folder). takes_at w (as_numbered c.args.row) (Some o)) c.in-Some.is;
  makes = c.in-Ok.ensures.makes held files w asked guards;
}

pub returns-in-None-clause-row : goal.returns-in-None-clause-row
returns-in-None-clause-row g c = λ held files w asked guards.
    row_refused_so held files c.args.plan.now c.args.plan.now (Unit {0}) (λ m. takes_at w (as_numbered c.args.row) (Some c.args.folder)) (BadPath (codes "RemoveFile") c.args.row.0) c.bad_path.result
    (ap (λ (o : Option Folder). takes_at w (as_numbered c.args.row) (Some o)) c.in-None.is) c.bad_path.ensures
