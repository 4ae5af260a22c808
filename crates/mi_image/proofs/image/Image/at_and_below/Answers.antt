use Rattle.std.proofs.Common.{◌≡◌, ◌++◌, ◌∷◌, [], List, ℕ, map, ap, ◌∙◌}
use Rattle.std.specs.Prelude.{filter, nat_eq}
use Rattle.std.specs.List.{starts_with}
use Rattle.std.specs.FinMap.{entries}
use Rattle.mi_text.specs.Maps.{Name}
use Rattle.mi_image.specs.declared.item.Item.{Item}
use Rattle.mi_image.proofs.PlaceLemmas.{found_with_below}
use Rattle.mi_image.proofs.image.Image.at_and_below.Goals as goal

pub returns-clause-found : goal.returns-clause-found
returns-clause-found c =
    let front : c.as_str.result.now ≡ c.args.name.now ++ 92 ∷ [] = c.as_str.ensures.value ∙ c.in_ok-push_str.ensures.bytes ∙ ap (λ (n : List ℕ). n ++ 92 ∷ []) c.in_ok-front.ensures.ok in
    let below = c.in_ok-below.ensures.found ∙ ap (λ (f : Name). map (λ (e : Name × Item). e.1) (filter (λ (e : Name × Item). starts_with nat_eq e.0 f) (entries c.args.self.now))) front in
    found_with_below c.args.self.now c.args.name.now c.in_ok-found.found.items c.in_ok-below.below.items c.extend_from_slice.new.self.items _ c.get.ensures.value c.in_ok-found.ensures below
    (c.in_ok-extend_from_slice.ensures.items ∙ ap (λ is. c.in_ok-found.found.items ++ is) c.as_slice.ensures.value)
