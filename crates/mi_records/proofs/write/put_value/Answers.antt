-- The keys, then the value.
use Rattle.std.proofs.Common.{List, ℕ, [], ◌∷◌, subst}
use Rattle.mi_text.specs.Maps.{Name}
use Rattle.mi_model.specs.Parents.{key_with_parents}
use Rattle.mi_model.specs.RegistryRows.{name_of_value}
use Rattle.mi_steps.specs.Follows.{Follows, put_touch}
use Rattle.mi_steps.specs.Makes.{plan_machine}
use Rattle.mi_steps.proofs.FollowLemmas.{joined}
use Rattle.mi_records.proofs.KeyLemmas.{if_ok}
use Rattle.mi_records.proofs.write.put_value.Goals as goal

pub returns-in-Ok-clause-makes : goal.returns-in-Ok-clause-makes
returns-in-Ok-clause-makes c = λ held files.
    let p = c.args.place.now in
    let m = plan_machine held files c.args.plan.now in
    let n = plan_machine held files c.make_keys.new.plan in
    let o = plan_machine held files c.put_entry.new.plan in
    let keys : Follows files m n c.args.plan.now.script c.make_keys.new.plan.script (key_with_parents p.root p.key) =
    subst (λ (k : List ℕ). Follows files m n c.args.plan.now.script c.make_keys.new.plan.script (key_with_parents p.root k)) c.key.ensures.key
    (subst (λ (r : ℕ). Follows files m n c.args.plan.now.script c.make_keys.new.plan.script (key_with_parents r c.key.result.now)) c.root.ensures.root (c.in-Ok.ensures.makes held files)) in
    if_ok c.put_entry.result (c.put_entry.ensures.makes held files) (λ one.
    joined files m n o c.args.plan.now.script c.make_keys.new.plan.script c.put_entry.new.plan.script (key_with_parents p.root p.key) (put_touch (name_of_value p) c.args.entry ∷ []) keys
    (subst (λ (q : Name). Follows files n o c.make_keys.new.plan.script c.put_entry.new.plan.script (put_touch q c.args.entry ∷ [])) c.requires.named one))
