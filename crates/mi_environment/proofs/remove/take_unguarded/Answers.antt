-- What is guarded stays.
use Rattle.std.proofs.Common.{◌≡◌, List, ℕ, [], ◌∷◌, true, false, ◌&&◌, ap, sym, subst, ◌∙◌}
use Rattle.std.specs.Prelude.{OnOk}
use Rattle.std.specs.BTreeSet.{contains}
use Rattle.mi_text.specs.Fold.{IsNameLength}
use Rattle.mi_text.specs.Maps.{name_cmp}
use Rattle.mi_base.specs.Machine.{as_variable}
use Rattle.mi_base.specs.declared.entry.Entry.{Entry}
use Rattle.mi_changes.specs.Touches.{Touch, Set}
use Rattle.mi_script.specs.Spelled.{is_file_name}
use Rattle.mi_model.specs.EnvironmentRows.{named_variable}
use Rattle.mi_model.specs.RemoveEnvironmentStrings.{variable_less}
use Rattle.mi_steps.specs.Makes.{Makes, plan_machine}
use Rattle.mi_steps.proofs.FollowLemmas.{started}
use Rattle.mi_variables.specs.Forms.{meant}
use Rattle.mi_environment.proofs.VariableLemmas.{right_length, plain_variable}
use Rattle.mi_environment.proofs.TakeLemmas.{held_back, not_held_back}
use Rattle.mi_environment.proofs.remove.take_unguarded.Goals as goal

pub take_form-requires-clause-length : goal.take_form-requires-clause-length
take_form-requires-clause-length c = subst (λ (n : List ℕ). IsNameLength n) (sym (c.as_str.ensures ∙ c.in_ok-at.ensures)) (right_length c.args.name.now c.requires)

pub take_form-requires-clause-plain : goal.take_form-requires-clause-plain
take_form-requires-clause-plain c = ap is_file_name (c.as_str.ensures ∙ c.in_ok-at.ensures) ∙ plain_variable c.args.name.now

pub returns-then-is_held_back-clause-makes : goal.returns-then-is_held_back-clause-makes
returns-then-is_held_back-clause-makes c = λ guarded held files guards.
    let name = c.args.name.now in
    let back : (c.args.leaving && guarded (named_variable name)) ≡ true = ap (λ b. c.args.leaving && b) (sym (ap (contains name_cmp c.args.guards.now) c.in_ok-at.ensures ∙ guards (named_variable name))) ∙ sym c.is_held_back.ensures ∙ c.if-is_held_back.true in
    subst (λ (ts : List (Touch Entry)). Makes held files c.args.plan.now c.args.plan.now ts) (sym (held_back c.args.leaving guarded name (meant c.args.form) back)) (started files (plan_machine held files c.args.plan.now) c.args.plan.now.script)

pub returns-clause-makes : goal.returns-clause-makes
returns-clause-makes c = λ guarded held files guards.
    let name = c.args.name.now in
    let back : (c.args.leaving && guarded (named_variable name)) ≡ false = ap (λ b. c.args.leaving && b) (sym (ap (contains name_cmp c.args.guards.now) c.in_ok-at.ensures ∙ guards (named_variable name))) ∙ sym c.is_held_back.ensures ∙ c.if-is_held_back.false in
    subst (λ (ts : List (Touch Entry)). OnOk c.take_form.result (Makes held files c.args.plan.now c.take_form.new.plan ts)) (sym (not_held_back c.args.leaving guarded name (meant c.args.form) back))
    (subst (λ (q : List ℕ). OnOk c.take_form.result (Makes held files c.args.plan.now c.take_form.new.plan (Set q (λ old. variable_less c.args.leaving (meant c.args.form) (as_variable old)) ∷ []))) (c.as_str.ensures ∙ c.in_ok-at.ensures) (c.take_form.ensures.makes held files))
