-- Only rows of kept components guard.
use Rattle.std.proofs.Common.{◌≡◌, true, false, ap, sym, ◌∙◌}
use Rattle.std.proofs.lemmas.Result.{IfOk-weaker}
use Rattle.mi_records.specs.Meaning.{numbered}
use Rattle.mi_records.proofs.GuardLemmas.{guard_kept, guard_none}
use Rattle.mi_records.proofs.guards.guard_of.Goals as goal

pub returns-then-keeps : goal.returns-then-keeps
returns-then-keeps g c = λ w number asked.
    let L = g.S.Env.lookups c.args.seen.now in
    let choices = g.S.Sees.choices c.args.seen.now in
    let kept : choices.kept c.args.row.now.component ≡ true = ap choices.kept (sym c.as_str.ensures) ∙ sym c.keeps.ensures ∙ c.if-keeps.true in
    IfOk-weaker c.value_named.result _ _ (λ o is. guard_kept L choices (g.S.Sees.rows c.args.seen.now) w asked (numbered number c.args.row.now) o kept is) (c.value_named.ensures number)

pub returns-else-keeps : goal.returns-else-keeps
returns-else-keeps g c = λ w number asked.
    let L = g.S.Env.lookups c.args.seen.now in
    let choices = g.S.Sees.choices c.args.seen.now in
    let kept : choices.kept c.args.row.now.component ≡ false = ap choices.kept (sym c.as_str.ensures) ∙ sym c.keeps.ensures ∙ c.if-keeps.false in
    guard_none L choices (g.S.Sees.rows c.args.seen.now) w asked (numbered number c.args.row.now) kept
