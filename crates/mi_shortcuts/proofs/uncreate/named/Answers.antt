-- By the path of the row.
use Rattle.std.proofs.Common.{List, ℕ, Option, Some, None, ◌≡◌, ◌∙◌, subst}
use Rattle.std.proofs.lemmas.Result.{IfOk-weaker}
use Rattle.mi_model.specs.Shortcuts.{shortcut_path}
use Rattle.mi_shortcuts.proofs.ShortcutLemmas.{named_so}
use Rattle.mi_shortcuts.proofs.uncreate.named.Goals as goal

pub returns-in-Ok-Some : goal.returns-in-Ok-Some
returns-in-Ok-Some g c = λ w asked.
    let at : Some c.in-Ok-Some.path ≡ shortcut_path w c.args.row.now = subst (λ (o : Option (List ℕ)). o ≡ shortcut_path w c.args.row.now) c.in-Ok-Some.field-0-is (c.in-Ok-Some.ensures.path w asked) in
    IfOk-weaker c.some_name.result _ _ (λ o is. is ∙ named_so w c.args.row.now (Some c.in-Ok-Some.path) at) c.some_name.ensures

pub returns-in-Ok-None : goal.returns-in-Ok-None
returns-in-Ok-None g c = λ w asked.
    named_so w c.args.row.now None (subst (λ (o : Option (List ℕ)). o ≡ shortcut_path w c.args.row.now) c.in-Ok-None.field-0-is (c.in-Ok-None.ensures.path w asked))
