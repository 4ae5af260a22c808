-- Nothing where it was present, and else one more.
use Rattle.std.proofs.Common.{◌≡◌, List, ap, sym, subst, ◌∙◌}
use Rattle.std.specs.Prelude.{OnOk}
use Rattle.mi_base.specs.declared.entry.Entry.{Entry}
use Rattle.mi_changes.specs.Touches.{Touch}
use Rattle.mi_model.specs.States.{is_present}
use Rattle.mi_steps.specs.Makes.{Makes}
use Rattle.mi_clients.proofs.CountLemmas.{on_local, present_is}
use Rattle.mi_clients.proofs.counts.count_on.Goals as goal

pub returns-clause-makes : goal.returns-clause-makes
returns-clause-makes g c = λ held files w asked.
    let r = c.args.row.now in
    let choices = g.S.Sees.choices c.args.seen.now in
    let there : is_present w.given r ≡ c.was_present.result = present_is (g.S.Env.lookups c.args.seen.now) choices (g.S.Sees.rows c.args.seen.now) w asked r c.requires ∙ ap choices.present (sym c.as_str.ensures) ∙ sym c.was_present.ensures in
    subst (λ (ts : List (Touch Entry)). OnOk c.raise_unless.result (Makes held files c.args.plan.now c.raise_unless.new.plan ts)) (sym (on_local w r c.args.path.now c.was_present.result there)) (c.raise_unless.ensures.makes held files)
