-- A row without a path is refused.
use Rattle.std.proofs.Common.{◌≡◌, List, ℕ, Option, Some, None, codes, subst}
use Rattle.mi_base.specs.declared.answers.Fault.TheVariants.{BadPath}
use Rattle.mi_model.specs.Shortcuts.{shortcut_path, path_or_refused}
use Rattle.mi_records.specs.Meaning.{numbered}
use Rattle.mi_shortcuts.proofs.ShortcutLemmas.{path_there, fault_told}
use Rattle.mi_shortcuts.proofs.shortcut.path_or_refused.Goals as goal

pub returns-in-Ok-Some-clause-path : goal.returns-in-Ok-Some-clause-path
returns-in-Ok-Some-clause-path g c = λ w asked.
    path_there w (numbered c.args.number c.args.row.now) (Some c.in-Ok-Some.path) (subst (λ (o : Option (List ℕ)). o ≡ shortcut_path w c.args.row.now) c.in-Ok-Some.field-0-is (c.in-Ok-Some.ensures.path w asked))

pub returns-in-Ok-None-clause-path : goal.returns-in-Ok-None-clause-path
returns-in-Ok-None-clause-path g c = λ w asked.
    let r = numbered c.args.number c.args.row.now in
    fault_told (λ (p : List ℕ). p) (path_or_refused w r) (BadPath (codes "Shortcut") c.args.number) c.bad_path.result
    (path_there w r None (subst (λ (o : Option (List ℕ)). o ≡ shortcut_path w c.args.row.now) c.in-Ok-None.field-0-is (c.in-Ok-None.ensures.path w asked))) c.bad_path.ensures
