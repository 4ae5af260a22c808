use Rattle.std.proofs.Common.{◌≡◌, List, ℕ, Some, ap, subst, sym, ◌∙◌}
use Rattle.std.specs.Prelude.{reverse}
use Rattle.std.specs.FinMap as map
use Rattle.mi_image.specs.declared.item.Item.{Item}
use Rattle.mi_image.specs.Items.{Items, Boxed, MayStand, AreRight, unboxed, items_of}
use Rattle.mi_image.proofs.ItemLemmas.{Key, right_set}
use Rattle.mi_image.proofs.GatherLemmas.{put_last}
use Rattle.mi_image.proofs.image.Gathered.put.Goals as goal

-- the pairs before, as items
abbrev before : (c : goal.In_ok-push) → Items
before c = items_of (reverse c.self.inside.pairs.items)

-- what stands after is what stood, with the item at the name
stands : (c : goal.In_ok-push) → items_of (reverse c.push.new.self.items) ≡ map.insert (before c) c.args.name.now c.args.item
stands c =
    ap (λ (ps : List (Key × Boxed)). items_of (reverse ps)) c.in_ok-push.ensures.items
    ∙ put_last c.self.inside.pairs.items (c.in_ok-key.key, c.in_ok-item.item)
    ∙ ap (λ (n : List ℕ). map.insert (before c) n (unboxed c.in_ok-item.item)) (c.in_ok-key.ensures.ok ∙ c.as_str.ensures.text)
    ∙ ap (λ (i : Item). map.insert (before c) c.args.name.now i) c.in_ok-item.ensures

pub invariant_of-self : goal.invariant_of-self
invariant_of-self c = subst (λ (ps : List (Key × Boxed)). AreRight (items_of (reverse ps))) (sym c.in_err-push.ensures.items) c.self.invariant

pub invariant_of-self-2 : goal.invariant_of-self-2
invariant_of-self-2 c =
    right_set (before c) (items_of (reverse c.push.new.self.items)) c.args.name.now (Some c.args.item) (stands c) c.self.invariant
    (λ i e. let is : c.args.item ≡ i = cc in subst (λ (j : Item). MayStand c.args.name.now j) is c.requires)

pub returns : goal.returns
returns c = record { ok = stands c ∙ ap (λ (m : Items). map.insert m c.args.name.now c.args.item) c.self.view_is }
