-- Only rows of kept components guard.
use Rattle.std.proofs.Common.{◌≡◌, true, false, Some, None, cond, ap, sym, ◌∙◌}
use Rattle.mi_model.specs.EnvironmentRows.{named_variable}
use Rattle.mi_model.specs.Asked.{keeps}
use Rattle.mi_environment.proofs.guards.guard_of.Goals as goal

pub returns-in_ok-name_text : goal.returns-in_ok-name_text
returns-in_ok-name_text g c = λ w asked.
    let choices = g.S.Sees.choices c.args.seen.now in
    let component = c.args.row.now.component in
    let kept : keeps w component ≡ true = asked.kept component ∙ ap choices.kept (sym c.as_str.ensures) ∙ sym c.keeps.ensures ∙ c.if-keeps.true in
    ap Some (c.in_ok-name_text.ensures ∙ ap named_variable c.as_str-then-keeps.ensures) ∙ ap (λ b. cond b (Some (named_variable c.args.row.now.name)) None) (sym kept)

pub returns-else-keeps : goal.returns-else-keeps
returns-else-keeps g c = λ w asked.
    let choices = g.S.Sees.choices c.args.seen.now in
    let component = c.args.row.now.component in
    let kept : keeps w component ≡ false = asked.kept component ∙ ap choices.kept (sym c.as_str.ensures) ∙ sym c.keeps.ensures ∙ c.if-keeps.false in
    ap (λ b. cond b (Some (named_variable c.args.row.now.name)) None) (sym kept)
