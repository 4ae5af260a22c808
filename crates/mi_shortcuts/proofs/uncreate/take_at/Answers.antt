-- What is guarded stays.
use Rattle.std.proofs.Common.{List, ℕ, [], ◌∷◌, sym, ap, subst, ◌∙◌}
use Rattle.std.specs.Prelude.{OnOk}
use Rattle.std.specs.BTreeSet.{contains}
use Rattle.mi_text.specs.Fold.{IsNameLength}
use Rattle.mi_text.specs.Maps.{name_cmp}
use Rattle.mi_base.specs.Names.{shortcut_name}
use Rattle.mi_base.specs.declared.entry.Entry.{Entry}
use Rattle.mi_changes.specs.Touches.{Touch}
use Rattle.mi_steps.specs.Follows.{drop_touch}
use Rattle.mi_steps.specs.Makes.{Makes, plan_machine}
use Rattle.mi_steps.proofs.FollowLemmas.{started}
use Rattle.mi_shortcuts.proofs.ShortcutLemmas.{right_length, kept_back, not_kept}
use Rattle.mi_shortcuts.proofs.uncreate.take_at.Goals as goal

pub drop_at-requires : goal.drop_at-requires
drop_at-requires c = subst (λ (n : List ℕ). IsNameLength n) (sym (c.as_str.ensures ∙ c.in_ok-name.ensures)) (right_length c.args.path.now c.requires)

pub returns-then-contains-clause-makes : goal.returns-then-contains-clause-makes
returns-then-contains-clause-makes c = λ held files w guards.
    let m = plan_machine held files c.args.plan.now in
    let q = shortcut_name c.args.path.now in
    let guarded = sym (guards q) ∙ ap (contains name_cmp c.args.guards.now) (sym c.in_ok-name.ensures) ∙ sym c.contains.ensures ∙ c.if-contains.true in
    subst (λ (ts : List (Touch Entry)). Makes held files c.args.plan.now c.args.plan.now ts) (sym (kept_back w q guarded)) (started files m c.args.plan.now.script)

pub returns-clause-makes : goal.returns-clause-makes
returns-clause-makes c = λ held files w guards.
    let q = shortcut_name c.args.path.now in
    let open_to = sym (guards q) ∙ ap (contains name_cmp c.args.guards.now) (sym c.in_ok-name.ensures) ∙ sym c.contains.ensures ∙ c.if-contains.false in
    subst (λ (ts : List (Touch Entry)). OnOk c.drop_at.result (Makes held files c.args.plan.now c.drop_at.new.plan ts)) (sym (not_kept w q open_to))
    (subst (λ (n : List ℕ). OnOk c.drop_at.result (Makes held files c.args.plan.now c.drop_at.new.plan (drop_touch n ∷ []))) (c.as_str.ensures ∙ c.in_ok-name.ensures) (c.drop_at.ensures.makes held files))
