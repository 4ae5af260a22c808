-- What is picked of items in order.
use Rattle.std.proofs.Common.{◌≡◌, ℕ, ◌+◌, ◌<◌, List, [], ◌∷◌, ◌++◌, map, take, length, get_or, Option, Some, None, Bor, refl, sym, ap, ◌∙◌}
use Rattle.std.specs.List.{filter_map}
use Rattle.std.specs.Option.{option_to_list}
use Rattle.std.proofs.lemmas.List.{map-append, take_more}
use Rattle.std.proofs.lemmas.List.Elements.{filter_map-append}

-- one item more
pub picked_more : {X T : Type 0} → (pick : X → Option T) (items : List (Bor X)) (i : ℕ) (x : Bor X) (o : Option T) → x ≡ get_or items i x → i < length items → o ≡ pick x.now
    → filter_map pick (map (λ y. y.now) (take (i + 1) items)) ≡ filter_map pick (map (λ y. y.now) (take i items)) ++ option_to_list o
picked_more {X} {T} pick items i x o at here is =
    ap (λ (ys : List (Bor X)). filter_map pick (map (λ y. y.now) ys)) (take_more items i x here ∙ ap (λ (y : Bor X). take i items ++ y ∷ []) (sym at))
    ∙ ap (filter_map pick) (map-append (λ (y : Bor X). y.now) (take i items) (x ∷ []))
    ∙ filter_map-append pick (map (λ (y : Bor X). y.now) (take i items)) (x.now ∷ [])
    ∙ ap (λ (ts : List T). filter_map pick (map (λ (y : Bor X). y.now) (take i items)) ++ ts) (last (pick x.now) ∙ ap option_to_list (sym is))
  where
    last : (p : Option T) → filter_map (λ (u : X). p) (x.now ∷ []) ≡ option_to_list p
    last None = refl
    last (Some t) = refl

-- what is picked so far, with what is picked of that item
pub picked_step : {X T : Type 0} → (pick : X → Option T) (items : List (Bor X)) (i : ℕ) (x : Bor X) (o p : Option T) (old new : List T) → x ≡ get_or items i x → i < length items → o ≡ pick x.now → o ≡ p
    → old ≡ filter_map pick (map (λ y. y.now) (take i items)) → new ≡ old ++ option_to_list p → new ≡ filter_map pick (map (λ y. y.now) (take (i + 1) items))
picked_step {X} {T} pick items i x o p old new at here is found so_far grown =
    grown ∙ ap (λ (ts : List T). ts ++ option_to_list p) so_far ∙ sym (picked_more pick items i x p at here (sym found ∙ is))
