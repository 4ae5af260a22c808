-- By the path of its copy.
use Rattle.std.proofs.Common.{List, ℕ, Option, Some, ap, sym, ◌∙◌}
use Rattle.mi_model.specs.DuplicateFiles.{copied_row}
use Rattle.mi_steps.specs.Makes.{plan_machine}
use Rattle.mi_records.specs.Order.{as_numbered}
use Rattle.mi_records.proofs.ClientLemmas.{row_same}
use Rattle.mi_files.specs.Copies.{copied_to}
use Rattle.mi_files.proofs.CopyLemmas.{told_path}
use Rattle.mi_files.proofs.duplicate.copy_row.Goals as goal

pub returns-in-Some-Some-clause-row : goal.returns-in-Some-Some-clause-row
returns-in-Some-Some-clause-row g c = λ held files w asked there.
    let m = plan_machine held files c.args.plan.now in
    let path = c.in-Some-Some.path in
    row_same held files c.args.plan.now c.copy_to.new.plan (copied_to w c.args.row.0 c.args.row.1.now path) (copied_row w (as_numbered c.args.row)) c.copy_to.result
    (sym (told_path w (as_numbered c.args.row) path m (ap (λ (o : Option (List ℕ)). Some o) (sym c.in-Some-Some.field-0-is) ∙ sym c.in-Some-Some.is ∙ c.in_ok-path.ensures.path w asked)))
    (c.copy_to.ensures.row held files w asked there)
