-- A guarded file stays.
use Rattle.std.proofs.Common.{[], ◌∷◌, List, ℕ, sym, ap, subst, ◌∙◌}
use Rattle.std.specs.BTreeSet.{contains}
use Rattle.mi_text.specs.Maps.{name_cmp}
use Rattle.mi_base.specs.Names.{file_name}
use Rattle.mi_steps.specs.Follows.{drop_touch}
use Rattle.mi_steps.specs.Makes.{Makes}
use Rattle.mi_files.proofs.TakeLemmas.{guarded_stays, free_goes}
use Rattle.mi_files.proofs.taking.take_file.Goals as goal

pub returns-then-contains-clause-makes : goal.returns-then-contains-clause-makes
returns-then-contains-clause-makes c = λ held files w guards.
    guarded_stays held files w c.args.path.now c.args.plan.now
    (sym (guards (file_name c.args.path.now)) ∙ ap (contains name_cmp c.args.guards.now) (sym c.in_ok-name.ensures) ∙ sym c.contains.ensures ∙ c.if-contains.true)

pub returns-clause-makes : goal.returns-clause-makes
returns-clause-makes c = λ held files w guards.
    free_goes held files w c.args.path.now c.args.plan.now c.drop_name.new.self
    (sym (guards (file_name c.args.path.now)) ∙ ap (contains name_cmp c.args.guards.now) (sym c.in_ok-name.ensures) ∙ sym c.contains.ensures ∙ c.if-contains.false)
    (subst (λ (name : List ℕ). Makes held files c.args.plan.now c.drop_name.new.self (drop_touch name ∷ [])) c.in_ok-name.ensures (c.in_ok-drop_name.ensures.makes held files))
