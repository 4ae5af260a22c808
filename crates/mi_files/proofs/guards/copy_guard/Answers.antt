-- Only rows of kept components guard.
use Rattle.std.proofs.Common.{◌≡◌, true, false, ap, sym, ◌∙◌}
use Rattle.std.specs.Prelude.{option_map}
use Rattle.std.specs.Option.{option_flatten}
use Rattle.std.proofs.lemmas.Result.{IfOk-weaker}
use Rattle.mi_base.specs.Names.{file_name}
use Rattle.mi_model.specs.Asked.{keeps}
use Rattle.mi_model.specs.FilePaths.{copy_path}
use Rattle.mi_files.proofs.FileGuardLemmas.{guard_kept, guard_none}
use Rattle.mi_files.proofs.guards.copy_guard.Goals as goal

pub returns-then-keeps : goal.returns-then-keeps
returns-then-keeps g c = λ w asked.
    let choices = g.E.Sees.choices c.args.seen.now in
    let kept : keeps w c.args.row.now.component ≡ true = asked.kept c.args.row.now.component ∙ ap choices.kept (sym c.as_str.ensures) ∙ sym c.keeps.ensures ∙ c.if-keeps.true in
    IfOk-weaker c.copy_named.result _ _ (λ o is. guard_kept (keeps w c.args.row.now.component) (option_map file_name (option_flatten (copy_path w c.args.row.now))) o kept is) (c.copy_named.ensures w asked)

pub returns-else-keeps : goal.returns-else-keeps
returns-else-keeps g c = λ w asked.
    let choices = g.E.Sees.choices c.args.seen.now in
    let kept : keeps w c.args.row.now.component ≡ false = asked.kept c.args.row.now.component ∙ ap choices.kept (sym c.as_str.ensures) ∙ sym c.keeps.ensures ∙ c.if-keeps.false in
    guard_none (keeps w c.args.row.now.component) (option_map file_name (option_flatten (copy_path w c.args.row.now))) kept
