use Rattle.std.proofs.Common.{◌≡◌, ◌+◌, ℕ, List, [], ◌∷◌, ◌++◌, length, take, sym, ap, ◌∙◌, subst, arith}
use Rattle.std.proofs.lemmas.List.{take_more}
use Rattle.mi_text.specs.Maps.{Name}
use Rattle.mi_world.specs.Bounds.{AreFoldedWithin}
use Rattle.mi_world.proofs.BoundLemmas.{at_least, folded_more}
use Rattle.mi_world.proofs.variables.bound_of.Goals as goal

pub loop-item-preserved : goal.loop-item-preserved
loop-item-preserved c =
    let items = c.args.items.now in
    let i = c.loop-item.item-index in
    let item = c.item-item.result in
    let taken : take i items ++ (item.0, item.1) ∷ [] ≡ take (i + 1) items = ap (λ (p : Name × List ℕ). take i items ++ p ∷ []) c.item-item.is ∙ sym (take_more items i item c.loop-item-test.true) in
    let size : length c.as_str.result.now ≡ length item.0 = ap length c.as_str.ensures in
    let greater = at_least c.loop-item.bound (length c.as_str.result.now + 1) c.max-bound.result c.max-bound.ensures in
    subst (AreFoldedWithin c.max-bound.result) taken (folded_more (take i items) item.0 item.1 c.loop-item.bound c.max-bound.result c.loop-item.invariant greater.0 (omega (arith, greater.1, size)))
