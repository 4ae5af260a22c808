-- By the path of the copy.
use Rattle.std.proofs.Common.{Option, [], map, ◌++◌, sym, ap, ◌∙◌}
use Rattle.std.specs.Prelude.{Ok, codes, option_map}
use Rattle.std.specs.Option.{option_to_list, option_flatten}
use Rattle.std.proofs.lemmas.List.{append-nil}
use Rattle.std.proofs.lemmas.Result.{IfOk-weaker}
use Rattle.mi_text.specs.Fold.{folded}
use Rattle.mi_text.specs.Path.{up_to_last}
use Rattle.mi_model.specs.Texts.{Text}
use Rattle.mi_model.specs.FilePaths.{takes_file}
use Rattle.mi_model.specs.DuplicateFiles.{with_path, removed_copy}
use Rattle.mi_steps.specs.Makes.{plan_machine}
use Rattle.mi_steps.proofs.FollowLemmas.{started}
use Rattle.mi_records.specs.Order.{as_numbered}
use Rattle.mi_records.proofs.ClientLemmas.{row_same}
use Rattle.mi_files.specs.Taking.{path_effect}
use Rattle.mi_files.proofs.uncopy.remove_copy.Goals as goal

pub returns-in-Ok-Some-clause-row : goal.returns-in-Ok-Some-clause-row
returns-in-Ok-Some-clause-row g c = λ held files w asked guards.
    row_same held files c.args.plan.now c.take_row.new.plan (path_effect w (codes "DuplicateFile") c.args.row.0 c.in-Ok-Some.path) (removed_copy w (as_numbered c.args.row)) c.take_row.result
    (ap (λ (o : Option (Option Text)). with_path (as_numbered c.args.row) o (λ p. Ok (takes_file w p))) (sym (rw c.in-Ok-Some.field-0-is at (c.in-Ok-Some.ensures.path w asked))))
    (c.take_row.ensures.row held files w guards)

pub returns-in-Ok-Some-clause-touched : goal.returns-in-Ok-Some-clause-touched
returns-in-Ok-Some-clause-touched g c = λ w asked.
    IfOk-weaker c.take_row.result _ _ (λ done is. is ∙ ap (λ (o : Option (Option Text)). c.args.touched.now.items ++ map folded (option_to_list (option_map up_to_last (option_flatten o)))) (rw c.in-Ok-Some.field-0-is at (c.in-Ok-Some.ensures.path w asked))) c.take_row.ensures.touched

pub returns-in-Ok-None-clause-row : goal.returns-in-Ok-None-clause-row
returns-in-Ok-None-clause-row g c = λ held files w asked guards. record {
  touches = [];
  gives = ap (λ (o : Option (Option Text)). with_path (as_numbered c.args.row) o (λ p. Ok (takes_file w p))) (sym (rw c.in-Ok-None.field-0-is at (c.in-Ok-None.ensures.path w asked)));
  makes = started files (plan_machine held files c.args.plan.now) c.args.plan.now.script;
}

pub returns-in-Ok-None-clause-touched : goal.returns-in-Ok-None-clause-touched
returns-in-Ok-None-clause-touched g c = λ w asked.
    sym (append-nil c.args.touched.now.items) ∙ ap (λ (o : Option (Option Text)). c.args.touched.now.items ++ map folded (option_to_list (option_map up_to_last (option_flatten o)))) (rw c.in-Ok-None.field-0-is at (c.in-Ok-None.ensures.path w asked))
