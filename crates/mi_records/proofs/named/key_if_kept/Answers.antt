-- Only rows of kept components keep keys.
use Rattle.std.proofs.Common.{◌≡◌, true, false, ap, sym, ◌∙◌}
use Rattle.std.proofs.lemmas.Result.{IfOk-weaker}
use Rattle.mi_records.specs.Meaning.{numbered}
use Rattle.mi_records.proofs.NamedLemmas.{key_kept, key_none}
use Rattle.mi_records.proofs.named.key_if_kept.Goals as goal

pub returns-then-keeps : goal.returns-then-keeps
returns-then-keeps g c = λ w number asked.
    let L = g.S.Env.lookups c.args.seen.now in
    let choices = g.S.Sees.choices c.args.seen.now in
    let kept : choices.kept c.args.row.now.component ≡ true = ap choices.kept (sym c.as_str.ensures) ∙ sym c.keeps.ensures ∙ c.if-keeps.true in
    IfOk-weaker c.key_made.result _ _ (λ o is. key_kept L choices (g.S.Sees.rows c.args.seen.now) w asked (numbered number c.args.row.now) o kept is) (c.key_made.ensures number)

pub returns-else-keeps : goal.returns-else-keeps
returns-else-keeps g c = λ w number asked.
    let L = g.S.Env.lookups c.args.seen.now in
    let choices = g.S.Sees.choices c.args.seen.now in
    let kept : choices.kept c.args.row.now.component ≡ false = ap choices.kept (sym c.as_str.ensures) ∙ sym c.keeps.ensures ∙ c.if-keeps.false in
    key_none L choices (g.S.Sees.rows c.args.seen.now) w asked (numbered number c.args.row.now) kept
