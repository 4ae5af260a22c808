-- Only counts of kept components guard.
use Rattle.std.proofs.Common.{◌≡◌, true, false, ap, sym, ◌∙◌}
use Rattle.std.proofs.lemmas.Result.{IfOk-weaker}
use Rattle.mi_records.proofs.CountLemmas.{count_kept, count_not_kept}
use Rattle.mi_records.proofs.counts.guard_of_count.Goals as goal

pub returns-then-keeps : goal.returns-then-keeps
returns-then-keeps g c = λ w asked.
    let L = g.S.Env.lookups c.args.seen.now in
    let choices = g.S.Sees.choices c.args.seen.now in
    let kept : choices.kept c.args.row.now.component ≡ true = ap choices.kept (sym c.as_str.ensures) ∙ sym c.keeps.ensures ∙ c.if-keeps.true in
    IfOk-weaker c.counted_name.result _ _ (λ o is. count_kept L choices (g.S.Sees.rows c.args.seen.now) w asked c.args.row.now o kept is) (c.counted_name.ensures w asked)

pub returns-else-keeps : goal.returns-else-keeps
returns-else-keeps g c = λ w asked.
    let L = g.S.Env.lookups c.args.seen.now in
    let choices = g.S.Sees.choices c.args.seen.now in
    let kept : choices.kept c.args.row.now.component ≡ false = ap choices.kept (sym c.as_str.ensures) ∙ sym c.keeps.ensures ∙ c.if-keeps.false in
    count_not_kept L choices (g.S.Sees.rows c.args.seen.now) w asked c.args.row.now kept
