-- By its path.
use Rattle.std.proofs.Common.{Option, map, ◌++◌, sym, ap, ◌∙◌}
use Rattle.std.specs.Prelude.{codes, option_map}
use Rattle.std.specs.Option.{option_to_list}
use Rattle.std.proofs.lemmas.Result.{IfOk-weaker}
use Rattle.mi_text.specs.Fold.{folded}
use Rattle.mi_text.specs.Path.{up_to_last}
use Rattle.mi_model.specs.Texts.{Text}
use Rattle.mi_model.specs.RemoveFiles.{removed_file}
use Rattle.mi_steps.specs.Makes.{plan_machine}
use Rattle.mi_records.specs.Order.{as_numbered}
use Rattle.mi_records.proofs.ClientLemmas.{row_same}
use Rattle.mi_files.specs.Taking.{path_effect}
use Rattle.mi_files.proofs.remove.remove_file.Goals as goal

pub returns-in-Ok-clause-row : goal.returns-in-Ok-clause-row
returns-in-Ok-clause-row g c = λ held files w asked guards.
    row_same held files c.args.plan.now c.take_row.new.plan (path_effect w (codes "File") c.args.row.0 c.in-Ok.path) (removed_file w (as_numbered c.args.row)) c.take_row.result
    (ap (λ (o : Option Text). path_effect w (codes "File") c.args.row.0 o (plan_machine held files c.args.plan.now)) (sym (c.in-Ok.ensures.path w asked)))
    (c.take_row.ensures.row held files w guards)

pub returns-in-Ok-clause-touched : goal.returns-in-Ok-clause-touched
returns-in-Ok-clause-touched g c = λ w asked.
    IfOk-weaker c.take_row.result _ _ (λ done is. is ∙ ap (λ (o : Option Text). c.args.touched.now.items ++ map folded (option_to_list (option_map up_to_last o))) (c.in-Ok.ensures.path w asked)) c.take_row.ensures.touched
