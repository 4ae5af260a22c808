-- Unless it is guarded.
use Rattle.std.proofs.Common.{◌≡◌, true, false, cond, List, ℕ, [], ◌∷◌, ap, sym, subst, ◌∙◌}
use Rattle.std.specs.BTreeSet.{contains}
use Rattle.mi_text.specs.Maps.{name_cmp}
use Rattle.mi_changes.specs.Touches.{Set}
use Rattle.mi_model.specs.RegistryRows.{name_of_value}
use Rattle.mi_model.specs.RemoveRegistryValues.{value_less}
use Rattle.mi_script.specs.Spelled.{is_file_name}
use Rattle.mi_steps.specs.Makes.{Makes, plan_machine}
use Rattle.mi_steps.proofs.FollowLemmas.{started}
use Rattle.mi_records.proofs.LessLemmas.{plain_value}
use Rattle.mi_records.proofs.remove.take_unguarded.Goals as goal

pub take_value-requires : goal.take_value-requires
take_value-requires c = ap is_file_name c.in_ok-name.ensures ∙ plain_value c.args.place.now

pub returns-then-contains-clause-makes : goal.returns-then-contains-clause-makes
returns-then-contains-clause-makes c = λ guarded held files guards.
    let q = name_of_value c.args.place.now in
    let on : guarded q ≡ true = sym (guards q) ∙ ap (contains name_cmp c.args.guards.now) (sym c.in_ok-name.ensures) ∙ sym c.contains.ensures ∙ c.if-contains.true in
    subst (λ b. Makes held files c.args.plan.now c.args.plan.now (cond b [] (Set q (value_less c.args.text.now) ∷ []))) (sym on) (started files (plan_machine held files c.args.plan.now) c.args.plan.now.script)

pub returns-clause-makes : goal.returns-clause-makes
returns-clause-makes c = λ guarded held files guards.
    let q = name_of_value c.args.place.now in
    let off : guarded q ≡ false = sym (guards q) ∙ ap (contains name_cmp c.args.guards.now) (sym c.in_ok-name.ensures) ∙ sym c.contains.ensures ∙ c.if-contains.false in
    subst (λ b. Makes held files c.args.plan.now c.take_value.new.plan (cond b [] (Set q (value_less c.args.text.now) ∷ []))) (sym off)
    (subst (λ (n : List ℕ). Makes held files c.args.plan.now c.take_value.new.plan (Set n (value_less c.args.text.now) ∷ [])) c.in_ok-name.ensures (c.in_ok-take_value.ensures.makes held files))
