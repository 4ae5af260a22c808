use Rattle.std.proofs.Common.{◌≡◌, ℕ, map, ap, ◌∙◌}
use Rattle.std.specs.Prelude.{min}
use Rattle.std.specs.List.{filter_map}
use Rattle.std.proofs.lemmas.Result.{IfOk-weaker}
use Rattle.mi_text.specs.Fold.{folded}
use Rattle.mi_image.specs.Fronts.{key_front}
use Rattle.mi_image.specs.Picks.{key_in}
use Rattle.mi_image.proofs.PlaceLemmas.{keys_are}
use Rattle.mi_image.proofs.image.Image.keys_below.Goals as goal

pub returns : goal.returns
returns c held files =
    let name : c.as_str-2.result.now ≡ key_front (min c.args.root 9) (folded c.args.key.now) =
    c.as_str-2.ensures.value ∙ c.in_ok-name.ensures ∙ ap (λ (n : ℕ). key_front n c.as_str.result.now) c.min.ensures ∙ ap (key_front (min c.args.root 9)) (c.as_str.ensures ∙ c.in_ok-key.ensures) in
    let found = ap (map (λ i. i.now)) c.as_slice.ensures.value ∙ c.in_ok-items.ensures.found in
    IfOk-weaker c.pick_all.result _ _ (λ v is. is ∙ ap (filter_map key_in) found ∙ keys_are held files c.args.self.now c.args.root c.args.key.now c.as_str-2.result.now name c.in_ok-items.ensures.right) c.pick_all.ensures
