-- Names that are joined, by the backslash at the end.
use Rattle.std.proofs.Common.{◌≡◌, ◌++◌, ◌∷◌, ℕ, ◌==◌, false, true, List, [], length, Some, None, sym, ap, ◌∙◌, ⊎_elim, lit<}
use Rattle.std.proofs.lemmas.Str.Pattern.{strip_suffix_char}
use Rattle.mi_text.specs.Path.{AreJoinedParts}
use Rattle.mi_text.proofs.PathLemmas.{parts_by_split, split_by_parts, parts_end}
use Rattle.mi_text.proofs.path.are_joined_parts.Goals as goal

pub returns-in-Some : goal.returns-in-Some
returns-in-Some c =
    let text = strip_suffix_char 92 c.args.rest.now (Some c.in-Some.front) c.in-Some.ensures.cases (lit< tt) in (
      λ good. parts_by_split c.args.rest.now c.in-Some.front.now text (sym c.all_parts.ensures ∙ good),
      λ parts. c.all_parts.ensures ∙ split_by_parts c.args.rest.now c.in-Some.front.now text parts,
    )

no_parts : (rest : List ℕ) → false ≡ (length rest == 0) → ((front : List ℕ) → rest ≡ front ++ 92 ∷ [] → ⊥) → AreJoinedParts rest → ⊥
no_parts rest some open_end parts = ⊎_elim
    (λ none. let empty : (length rest == 0) ≡ true = ap (λ (q : List ℕ). length q == 0) none in let wrong : false ≡ true = some ∙ empty in cc)
    (λ end. open_end end.0 end.1)
    (parts_end rest parts)

pub returns-in-None : goal.returns-in-None
returns-in-None c =
    let open_end = strip_suffix_char 92 c.args.rest.now None c.in-None.ensures.cases (lit< tt) in
    (λ wrong. cc, λ parts. absurd (no_parts c.args.rest.now c.if-is_empty.ensures open_end parts))
