-- By the folder of its directory.
use Rattle.std.proofs.Common.{List, ℕ, Some, None, ap, sym, ◌∙◌}
use Rattle.std.specs.Result.{result_ok}
use Rattle.std.proofs.lemmas.Result.{IfOk-weaker}
use Rattle.mi_text.specs.FileNames.{long_name}
use Rattle.mi_text.specs.Path.{file_of}
use Rattle.mi_dirs.specs.Places.{target_of}
use Rattle.mi_shortcuts.proofs.ShortcutLemmas.{path_is}
use Rattle.mi_shortcuts.proofs.shortcut.shortcut_path.Goals as goal

pub returns-in-Some-clause-path : goal.returns-in-Some-clause-path
returns-in-Some-clause-path g c = λ w asked.
    let choices = g.S.Sees.choices c.args.seen.now in
    let at = path_is (g.S.Env.lookups c.args.seen.now) choices (g.S.Sees.rows c.args.seen.now) w asked c.args.row.now (Some c.in-Some.folder.now) (c.in-Some.ensures.target ∙ ap (target_of choices.dirs) c.as_str.ensures) in
    IfOk-weaker c.file_in.result _ _ (λ o is. is ∙ ap (λ (n : List ℕ). result_ok (file_of c.in-Some.folder.now (long_name n))) c.as_str-in-Some.ensures ∙ sym at) c.file_in.ensures.path

pub returns-in-None-clause-path : goal.returns-in-None-clause-path
returns-in-None-clause-path g c = λ w asked.
    let choices = g.S.Sees.choices c.args.seen.now in
    sym (path_is (g.S.Env.lookups c.args.seen.now) choices (g.S.Sees.rows c.args.seen.now) w asked c.args.row.now None (c.in-None.ensures.target ∙ ap (target_of choices.dirs) c.as_str.ensures))
