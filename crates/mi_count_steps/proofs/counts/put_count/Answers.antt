use Rattle.std.proofs.Common.{[], ◌∷◌, subst}
use Rattle.mi_text.specs.Maps.{Name}
use Rattle.mi_base.specs.declared.entry.Entry.{Entry}
use Rattle.mi_model.specs.SharedCounts.{count_name}
use Rattle.mi_steps.specs.Follows.{put_touch}
use Rattle.mi_steps.specs.Makes.{Makes}
use Rattle.mi_records.proofs.KeyLemmas.{if_ok}
use Rattle.mi_count_steps.proofs.CountLemmas.{count_named}
use Rattle.mi_count_steps.proofs.counts.put_count.Goals as goal

pub returns-in-Ok-clause-makes : goal.returns-in-Ok-clause-makes
returns-in-Ok-clause-makes c = λ held files.
    if_ok c.put_where_right.result (c.put_where_right.ensures.makes held files) (λ made.
    subst (λ (e : Entry). Makes held files c.args.plan.now c.put_where_right.new.plan (put_touch (count_name c.args.path.now) e ∷ [])) c.in-Ok.ensures
    (subst (λ (q : Name). Makes held files c.args.plan.now c.put_where_right.new.plan (put_touch q c.in-Ok.entry ∷ [])) (count_named c.args.path.now c.args.number c.in-Ok.entry c.in-Ok.ensures) made))
