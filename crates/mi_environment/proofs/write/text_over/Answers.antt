-- Over the value that is held.
use Rattle.std.proofs.Common.{List, ℕ, Option, ap, ◌∙◌}
use Rattle.std.specs.FinMap.{get}
use Rattle.std.proofs.lemmas.Result.{IfOk-weaker}
use Rattle.mi_image.specs.Items.{machine_over}
use Rattle.mi_model.specs.WriteEnvironmentStrings.{old_text}
use Rattle.mi_variables.specs.Forms.{meant}
use Rattle.mi_variables.specs.Written.{written_text}
use Rattle.mi_environment.proofs.write.text_over.Goals as goal

pub returns : goal.returns
returns c = λ held files.
    IfOk-weaker c.written_text.result _ _ (λ t is. is
    ∙ ap (λ (o : Option (List ℕ)). written_text c.args.name.now (meant c.args.form) o) (c.old_text.ensures held files)
    ∙ ap (λ (q : List ℕ). written_text c.args.name.now (meant c.args.form) (old_text (get (machine_over held files c.args.image.now) q))) (c.as_str.ensures ∙ c.in_ok-at.ensures)) c.written_text.ensures
