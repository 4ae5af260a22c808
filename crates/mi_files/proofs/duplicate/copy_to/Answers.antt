-- Of the file of the row.
use Rattle.std.proofs.Common.{sym, ◌∙◌}
use Rattle.mi_base.specs.Machine.{file_at}
use Rattle.mi_model.specs.DuplicateFiles.{copies}
use Rattle.mi_steps.specs.Makes.{plan_machine}
use Rattle.mi_files.proofs.CopyLemmas.{told_original}
use Rattle.mi_files.proofs.duplicate.copy_to.Goals as goal

pub returns-in_ok-copy_file-in-Some-clause-row : goal.returns-in_ok-copy_file-in-Some-clause-row
returns-in_ok-copy_file-in-Some-clause-row g c = λ held files w asked there.
    let m = plan_machine held files c.args.plan.now in
    let path = c.args.path.now in
    let original = c.in-Some.original in
    record {
      touches = copies w path original (file_at m original);
      gives = told_original w c.args.row.0 c.args.row.1.now path original m (sym c.in-Some.is ∙ c.in_ok-original.ensures.path w asked);
      makes = c.in_ok-copy_file-in-Some.ensures.makes held files w (asked.moment ∙ sym c.moment.ensures) there;
    }
