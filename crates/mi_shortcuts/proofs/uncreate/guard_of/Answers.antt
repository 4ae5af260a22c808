-- Only rows of kept components guard.
use Rattle.std.proofs.Common.{◌≡◌, true, false, None, cond, ap, sym, ◌∙◌}
use Rattle.std.specs.Prelude.{option_map}
use Rattle.std.proofs.lemmas.Result.{IfOk-weaker}
use Rattle.mi_base.specs.Names.{shortcut_name}
use Rattle.mi_model.specs.Asked.{keeps}
use Rattle.mi_model.specs.Shortcuts.{shortcut_path}
use Rattle.mi_shortcuts.proofs.uncreate.guard_of.Goals as goal

pub returns-then-keeps : goal.returns-then-keeps
returns-then-keeps g c = λ w asked.
    let choices = g.S.Sees.choices c.args.seen.now in
    let component = c.args.row.now.component in
    let kept : keeps w component ≡ true = asked.kept component ∙ ap choices.kept (sym c.as_str.ensures) ∙ sym c.keeps.ensures ∙ c.if-keeps.true in
    IfOk-weaker c.named.result _ _ (λ o is. is ∙ ap (λ b. cond b (option_map shortcut_name (shortcut_path w c.args.row.now)) None) (sym kept)) (c.named.ensures w asked)

pub returns-else-keeps : goal.returns-else-keeps
returns-else-keeps g c = λ w asked.
    let choices = g.S.Sees.choices c.args.seen.now in
    let component = c.args.row.now.component in
    let kept : keeps w component ≡ false = asked.kept component ∙ ap choices.kept (sym c.as_str.ensures) ∙ sym c.keeps.ensures ∙ c.if-keeps.false in
    ap (λ b. cond b (option_map shortcut_name (shortcut_path w c.args.row.now)) None) (sym kept)
