-- Item by item.
use Rattle.std.proofs.Common.{◌≡◌, ◌++◌, ◌∷◌, [], List, cond, nat_lt, ap, sym, ◌∙◌}
use Rattle.std.specs.Prelude.{count_by, ◌&&◌, ◌-◌}
use Rattle.mi_text.specs.Maps.{Name, same_name}
use Rattle.mi_model.specs.ListItems.{without_items}
use Rattle.mi_records.specs.Removing.{count_at}
use Rattle.mi_records.proofs.ItemLemmas.{left, left_alike, left_without, left_step}
use Rattle.mi_records.proofs.items.without_items.Goals as goal
use Rattle.mi_records.proofs.items.without_items.Goals.{then-not-branch+in_ok-copy_of+in_ok-push, else-not-branch}

pub loop-item-init : goal.loop-item-init
loop-item-init c =
    ap (λ (l : List Name). l ++ left (count_at c.in_ok-counts.counts) c.args.list.now) c.new-rest.ensures
    ∙ left_alike (count_at c.in_ok-counts.counts) (λ q. count_by (same_name q) c.args.items.now) c.in_ok-counts.ensures c.args.list.now
    ∙ left_without c.args.items.now c.args.list.now

pub loop-item-preserved : goal.loop-item-preserved
loop-item-preserved c =
    let x = c.item-item.result in
    let old = count_at c.loop-item.counts in
    let was = c.in_ok-is_taken.field-0 in
    let test : was ≡ nat_lt 0 (old x) = c.in_ok-is_taken.ensures.taken ∙ ap (λ (n : Name). nat_lt 0 (old n)) c.as_str.ensures in
    let counts : (q : Name) → count_at c.is_taken.new.counts q ≡ cond (was && same_name q x) (old q - 1) (old q) = λ q. c.in_ok-is_taken.ensures.less q ∙ ap (λ (n : Name). cond (was && same_name q n) (old q - 1) (old q)) c.as_str.ensures in
    left_step (without_items c.args.items.now c.args.list.now) c.args.list.now c.loop-item.item-index x c.loop-item.rest c.if-not-branch.rest old (count_at c.is_taken.new.counts) was c.loop-item-test.true c.item-item.is test counts
    (elim c.if-not-branch.branch [
      | then-not-branch+in_ok-copy_of+in_ok-push w ↦
          w.rest-is ∙ w.in_ok-push.ensures.ok
          ∙ ap (λ (n : Name). c.loop-item.rest ++ n ∷ []) (w.in_ok-copy_of.ensures ∙ w.as_str-then-not-branch.ensures)
          ∙ ap (λ b. cond b c.loop-item.rest (c.loop-item.rest ++ x ∷ [])) (sym w.if-not-branch.true)
      | else-not-branch w ↦ w.rest-is ∙ ap (λ b. cond b c.loop-item.rest (c.loop-item.rest ++ x ∷ [])) (sym w.if-not-branch.false)
    ]) c.loop-item.invariant
