-- One item more in the set.
use Rattle.std.proofs.Common.{◌≡◌, ◌<◌, ◌+◌, ◌||◌, ℕ, true, false, Bool, cond, List, length, take, get_or, refl, sym, ap, ◌∙◌}
use Rattle.std.specs.Ordering.{is_eq}
use Rattle.std.proofs.lemmas.List.Folds.{list_any_more}
use Rattle.mi_text.specs.Maps.{Name, name_cmp, same_name, is_among}
use Rattle.mi_wishes.proofs.RowLemmas.{same_both_ways}
use Rattle.mi_wishes.proofs.list.set_of.Goals as goal

either : (here there : Bool) → cond here true there ≡ (there || here)
either true true = refl
either true false = refl
either false true = refl
either false false = refl

one_more : (q key : Name) (items : List Name) (i : ℕ) → i < length items → key ≡ get_or items i key → cond (is_eq (name_cmp key q)) true (is_among q (take i items)) ≡ is_among q (take (i + 1) items)
one_more q key items i lt is =
    either (is_eq (name_cmp key q)) (is_among q (take i items))
    ∙ ap (λ t. is_among q (take i items) || t) (same_both_ways key q ∙ ap (same_name q) is)
    ∙ sym (list_any_more (same_name q) items i key lt)

pub loop-item-preserved : goal.loop-item-preserved
loop-item-preserved c = λ q.
    let same = c.in_ok-copy_of.ensures ∙ c.as_str.ensures in
    c.in_ok-insert.ensures.updates.0 q
    ∙ ap (λ b. cond (is_eq (name_cmp c.in_ok-copy_of.field-0 q)) true b) (c.loop-item.invariant q)
    ∙ one_more q c.in_ok-copy_of.field-0 c.args.items.now c.loop-item.item-index c.loop-item-test.true (same ∙ c.item-item.is ∙ ap (λ d. get_or c.args.items.now c.loop-item.item-index d) (sym same))
