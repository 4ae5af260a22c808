-- None where it leaves, and else one less.
use Rattle.std.proofs.Common.{◌≡◌, List, true, false, ap, sym, subst, ◌∙◌}
use Rattle.std.specs.Prelude.{OnOk}
use Rattle.mi_base.specs.declared.entry.Entry.{Entry}
use Rattle.mi_changes.specs.Touches.{Touch}
use Rattle.mi_model.specs.Asked.{leaves}
use Rattle.mi_model.specs.CountRows.{is_guarded}
use Rattle.mi_steps.specs.Makes.{Makes}
use Rattle.mi_clients.proofs.CountLemmas.{off_taken, off_lowered}
use Rattle.mi_clients.proofs.counts.count_off.Goals as goal

pub returns-then-leaves-clause-makes : goal.returns-then-leaves-clause-makes
returns-then-leaves-clause-makes g c = λ held files w asked guards.
    let r = c.args.row.now in
    let choices = g.S.Sees.choices c.args.seen.now in
    let on : leaves w r.component ≡ true = asked.leaving r.component ∙ ap choices.leaving (sym c.as_str.ensures) ∙ sym c.leaves.ensures ∙ c.if-leaves.true in
    subst (λ (ts : List (Touch Entry)). OnOk c.take.result (Makes held files c.args.plan.now c.take.new.plan ts)) (sym (off_taken w r c.args.path.now on)) (c.take.ensures.makes (is_guarded w) held files (guards on))

pub returns-else-leaves-clause-makes : goal.returns-else-leaves-clause-makes
returns-else-leaves-clause-makes g c = λ held files w asked guards.
    let r = c.args.row.now in
    let choices = g.S.Sees.choices c.args.seen.now in
    let off : leaves w r.component ≡ false = asked.leaving r.component ∙ ap choices.leaving (sym c.as_str.ensures) ∙ sym c.leaves.ensures ∙ c.if-leaves.false in
    subst (λ (ts : List (Touch Entry)). OnOk c.lower.result (Makes held files c.args.plan.now c.lower.new.plan ts)) (sym (off_lowered w r c.args.path.now off)) (c.lower.ensures.makes held files)
