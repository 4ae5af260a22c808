use Rattle.std.proofs.Common.{◌≡◌, ◌++◌, List, [], ℕ, true, false, cond, map, ap, sym, ◌∙◌}
use Rattle.std.specs.Prelude.{filter, nat_eq}
use Rattle.std.specs.List.{starts_with, filter_map}
use Rattle.std.specs.FinMap.{entries}
use Rattle.std.proofs.lemmas.Result.{IfOk-weaker}
use Rattle.mi_text.specs.Fold.{folded}
use Rattle.mi_text.specs.Maps.{Name}
use Rattle.mi_text.specs.Path.{is_folder_path}
use Rattle.mi_image.specs.declared.item.Item.{Item}
use Rattle.mi_image.proofs.image.Image.places_below.Goals as goal

pub returns-clause-picked : goal.returns-clause-picked
returns-clause-picked g c =
    let folder : is_folder_path c.args.folder.now ≡ true = sym c.is_folder.ensures.folder ∙ c.if-not-is_folder.false in
    let front : c.as_str-3.result.now ≡ c.args.kind.now ++ folded c.args.folder.now =
    c.as_str-3.ensures ∙ c.in_ok-push_str.ensures.ok ∙ ap (λ (f : List ℕ). f ++ c.as_str-2.result.now) c.in_ok-front.ensures ∙ ap (λ (t : List ℕ). c.args.kind.now ++ t) (c.as_str-2.ensures ∙ c.in_ok-fold.ensures ∙ ap folded c.as_str.ensures.text) in
    let found = ap (map (λ i. i.now)) c.as_slice.ensures.value ∙ c.in_ok-items.ensures.found ∙ ap (λ (f : Name). map (λ (e : Name × Item). e.1) (filter (λ (e : Name × Item). starts_with nat_eq e.0 f) (entries c.args.self.now))) front in
    let picks = g.P.Pick.picks c.args.pick.now in
    IfOk-weaker c.pick_all.result _ _ (λ v is. is ∙ ap (filter_map picks) found ∙ sym (ap (λ b. cond b (filter_map picks (map (λ (e : Name × Item). e.1) (filter (λ (e : Name × Item). starts_with nat_eq e.0 (c.args.kind.now ++ folded c.args.folder.now)) (entries c.args.self.now)))) []) folder)) c.pick_all.ensures

pub returns-then-not-is_folder-clause-picked : goal.returns-then-not-is_folder-clause-picked
returns-then-not-is_folder-clause-picked g c =
    let other : is_folder_path c.args.folder.now ≡ false = sym c.is_folder.ensures.folder ∙ c.if-not-is_folder.true in
    let picks = g.P.Pick.picks c.args.pick.now in
    c.new.ensures.items ∙ sym (ap (λ b. cond b (filter_map picks (map (λ (e : Name × Item). e.1) (filter (λ (e : Name × Item). starts_with nat_eq e.0 (c.args.kind.now ++ folded c.args.folder.now)) (entries c.args.self.now)))) []) other)
