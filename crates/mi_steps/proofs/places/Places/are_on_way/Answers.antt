use Rattle.std.proofs.Common.{List, ℕ, [], take, length, rules, ap, sym, subst, ◌∙◌}
use Rattle.std.specs.List.Sorted.{IsSorted}
use Rattle.std.specs.Ordering.{nat_cmp}
use Rattle.std.specs.Cmp.Lexicographic.{slice_cmp}
use Rattle.std.proofs.lemmas.Fn.{always_returns_same}
use Rattle.mi_text.specs.Maps.{name_cmp}
use Rattle.mi_model.specs.Prune.{is_on_way}
use Rattle.mi_steps.proofs.PlaceLemmas.{searchable, found_at, none_at}
use Rattle.mi_steps.proofs.places.Places.are_on_way.Goals as goal

pub returns-in-Ok : goal.returns-in-Ok
returns-in-Ok c =
    let found = c.in-Ok.ensures.position (λ y. name_cmp (take (length c.args.holder.now) y) c.args.holder.now) (always_returns_same _ _ _ (λ a r f' k. (search rules, search rules))) in
    found_at c.deref.result.now c.args.holder.now c.in-Ok.field-0 c.in-Ok.ensures.bound (found [])
    ∙ ap (λ (ps : List (List ℕ)). is_on_way ps c.args.holder.now) (c.deref.ensures.value ∙ c.self.view_is)

pub returns-in-Err : goal.returns-in-Err
returns-in-Err c =
    let found = c.in-Err.ensures.position (λ y. name_cmp (take (length c.args.holder.now) y) c.args.holder.now) (always_returns_same _ _ _ (λ a r f' k. (search rules, search rules))) in
    none_at c.deref.result.now c.args.holder.now c.in-Err.field-0 (found (searchable c.deref.result.now c.args.holder.now (subst (IsSorted (slice_cmp nat_cmp)) (sym c.deref.ensures.value) c.self.invariant)))
    ∙ ap (λ (ps : List (List ℕ)). is_on_way ps c.args.holder.now) (c.deref.ensures.value ∙ c.self.view_is)
