-- By the path of the row.
use Rattle.std.proofs.Common.{List, ℕ, Option, Some, None, ◌≡◌, ◌∙◌, subst}
use Rattle.std.specs.Prelude.{IfSome, IsTrue}
use Rattle.std.proofs.lemmas.Result.{IfOk-weaker}
use Rattle.mi_text.specs.Path.{is_file_path}
use Rattle.mi_model.specs.Shortcuts.{shortcut_path}
use Rattle.mi_records.specs.Meaning.{numbered}
use Rattle.mi_shortcuts.proofs.ShortcutLemmas.{touched_so}
use Rattle.mi_shortcuts.proofs.uncreate.touched_by.Goals as goal

pub some_parent-requires : goal.some_parent-requires
some_parent-requires g c = subst (λ (o : Option (List ℕ)). IfSome o (λ p. IsTrue (is_file_path p))) c.in-Ok-Some.field-0-is c.in-Ok-Some.ensures.file

pub returns-in-Ok-Some : goal.returns-in-Ok-Some
returns-in-Ok-Some g c = λ w number asked.
    let at : Some c.in-Ok-Some.path ≡ shortcut_path w c.args.row.now = subst (λ (o : Option (List ℕ)). o ≡ shortcut_path w c.args.row.now) c.in-Ok-Some.field-0-is (c.in-Ok-Some.ensures.path w asked) in
    IfOk-weaker c.some_parent.result _ _ (λ o is. is ∙ touched_so w (numbered number c.args.row.now) (Some c.in-Ok-Some.path) at) c.some_parent.ensures

pub returns-in-Ok-None : goal.returns-in-Ok-None
returns-in-Ok-None g c = λ w number asked.
    touched_so w (numbered number c.args.row.now) None (subst (λ (o : Option (List ℕ)). o ≡ shortcut_path w c.args.row.now) c.in-Ok-None.field-0-is (c.in-Ok-None.ensures.path w asked))
