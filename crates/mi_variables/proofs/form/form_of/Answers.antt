-- Where neither mark stands.
use Rattle.std.proofs.Common.{false, ◌≡◌, ◌∷◌, [], cond, take, drop, length, ◌-◌, sym, ap, ◌∙◌}
use Rattle.std.specs.Prelude.{nat_eq}
use Rattle.std.specs.List.{starts_with, ends_with}
use Rattle.std.proofs.lemmas.Str.Pattern.{starts_text, ends_text}
use Rattle.mi_model.specs.EnvironmentRows.{Whole, Behind, Before}
use Rattle.mi_variables.proofs.form.form_of.Goals as goal

pub returns-in-None : goal.returns-in-None
returns-in-None c =
    let text = c.args.text.now in
    let front : starts_with nat_eq text (0 ∷ 59 ∷ []) ≡ false = sym (starts_text false (0 ∷ 59 ∷ []) text c.in_default.ensures.cases) in
    let end : ends_with nat_eq text (59 ∷ 0 ∷ []) ≡ false = sym (ends_text false (59 ∷ 0 ∷ []) text c.in-None.ensures.cases) in
    sym (ap (λ b. cond b (Behind (drop 2 text)) (cond (ends_with nat_eq text (59 ∷ 0 ∷ [])) (Before (take (length text - 2) text)) (Whole text))) front
    ∙ ap (λ b. cond b (Before (take (length text - 2) text)) (Whole text)) end)
