use Rattle.std.proofs.Common.{◌≡◌, Ok, subst, sym, ◌∙◌}
use Rattle.std.specs.Prelude.{reverse, Result}
use Rattle.std.specs.BTreeMap.{BTreeMap, IsFromIterResult}
use Rattle.std.proofs.lemmas.Iterator.Adapters.{fact_from_collect, YieldsList-from_vec}
use Rattle.mi_image.specs.Items.{Items, Boxed, AreRight, items_of}
use Rattle.mi_image.proofs.ItemLemmas.{Key, key_cmp}
use Rattle.mi_image.proofs.GatherLemmas.{made_of}
use Rattle.mi_image.proofs.image.Image.of.Goals as goal

-- the tree has the items of the pairs
has_all : (c : goal.In_ok-items) → items_of c.in_ok-items.items.entries ≡ items_of (reverse c.gathered.inside.pairs.items)
has_all c =
    let pairs = c.gathered.inside.pairs in
    let ran = c.in_ok-items.ensures.ran in
    let made : Result (BTreeMap Key Boxed) (Unit {0}) = Ok c.in_ok-items.items in
    made_of pairs.items c.in_ok-items.items
    (fact_from_collect (IsFromIterResult key_cmp) made (ran.1, ran.3, ran.4) (YieldsList-from_vec pairs.items ran.2.0 (ran.2.1 ∙ pairs.ok.0)))

pub returns : goal.returns
returns c = has_all c ∙ c.gathered.view_is

pub invariant_of-result : goal.invariant_of-result
invariant_of-result c = subst (λ (m : Items). AreRight m) (sym (has_all c)) c.gathered.invariant
