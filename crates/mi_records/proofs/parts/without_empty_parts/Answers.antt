use Rattle.std.proofs.Common.{Bor, List, ℕ, [], ◌∷◌, ap, ◌∙◌}
use Rattle.std.specs.List.{join_by}
use Rattle.mi_model.specs.Parents.{key_text}
use Rattle.mi_records.proofs.PartLemmas.{joined_parts}
use Rattle.mi_records.proofs.parts.without_empty_parts.Goals as goal

pub returns : goal.returns
returns c =
    c.in_ok-text.ensures ∙ c.in_ok-key.ensures.ok
    ∙ ap (λ (parts : List (Bor (List ℕ))). join_by (λ (p : Bor (List ℕ)). p.now) (92 ∷ []) parts) c.as_slice.ensures.value
    ∙ joined_parts c.in_ok-parts.parts.items
    ∙ ap key_text c.in_ok-parts.ensures
