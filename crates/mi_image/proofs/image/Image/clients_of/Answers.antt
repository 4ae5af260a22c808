use Rattle.std.proofs.Common.{◌≡◌, ◌++◌, List, ℕ, map, ap, ◌∙◌}
use Rattle.std.specs.Prelude.{codes}
use Rattle.std.specs.List.{filter_map}
use Rattle.std.proofs.lemmas.Result.{IfOk-weaker}
use Rattle.mi_text.specs.Guid.{guid_text}
use Rattle.mi_image.specs.Picks.{client_with}
use Rattle.mi_image.proofs.ListLemmas.{clients_with_are}
use Rattle.mi_image.proofs.image.Image.clients_of.Goals as goal

pub returns : goal.returns
returns c held files =
    let front : c.as_str-2.result.now ≡ codes "c/" ++ guid_text c.args.component.number =
    c.as_str-2.ensures ∙ c.in_ok-push_str.ensures.ok ∙ ap (λ (f : List ℕ). f ++ c.as_str.result.now) c.in_ok-front.ensures ∙ ap (λ (t : List ℕ). codes "c/" ++ t) (c.as_str.ensures ∙ c.in_ok-print.ensures) in
    let found = ap (map (λ i. i.now)) c.as_slice.ensures.value ∙ c.in_ok-items.ensures.found in
    IfOk-weaker c.pick_all.result _ _ (λ v is. is ∙ ap (filter_map (client_with c.args.component.number)) found ∙ clients_with_are held files c.args.self.now c.args.component.number c.as_str-2.result.now front c.in_ok-items.ensures.right) c.pick_all.ensures
