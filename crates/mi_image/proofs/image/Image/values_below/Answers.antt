use Rattle.std.proofs.Common.{◌≡◌, ◌-◌, ◌++◌, ◌∷◌, [], List, ℕ, length, map, ap, sym, ◌∙◌}
use Rattle.std.specs.Prelude.{filter}
use Rattle.std.specs.List.{filter_map}
use Rattle.std.specs.FinMap.{entries}
use Rattle.std.proofs.lemmas.Result.{IfOk-weaker}
use Rattle.mi_text.specs.Fold.{folded}
use Rattle.mi_text.specs.Maps.{Name}
use Rattle.mi_image.specs.declared.item.Item.{Item}
use Rattle.mi_image.specs.Fronts.{begins_within}
use Rattle.mi_image.specs.Picks.{value_in}
use Rattle.mi_image.proofs.ListLemmas.{values_are}
use Rattle.mi_image.proofs.image.Image.values_below.Goals as goal

pub returns : goal.returns
returns c held files =
    let key = c.as_str-2.result.now in
    let front = c.as_str-3.result.now in
    let key_is : key ≡ folded c.args.key.now = c.as_str-2.ensures ∙ c.in_ok-key.ensures in
    let front_is : front ≡ key ++ 92 ∷ [] = c.as_str-3.ensures ∙ c.in_ok-push_str.ensures.ok ∙ ap (λ (f : List ℕ). f ++ 92 ∷ []) (c.in_ok-front.ensures ∙ c.as_str.ensures ∙ sym c.as_str-2.ensures) in
    let found = ap (map (λ i. i.now)) c.as_slice.ensures.value ∙ c.in_ok-items.ensures.found ∙ ap (λ (n : ℕ). map (λ (e : Name × Item). e.1) (filter (λ (e : Name × Item). begins_within n key front (500 - length key) e.0) (entries c.args.self.now))) c.min.ensures in
    IfOk-weaker c.pick_all.result _ _ (λ v is. is ∙ ap (filter_map (value_in c.args.root key front)) found ∙ values_are held files c.args.self.now c.args.root c.args.key.now key front key_is front_is c.in_ok-items.ensures.right) c.pick_all.ensures
