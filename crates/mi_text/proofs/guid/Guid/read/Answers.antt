-- A text of 38 characters that no form of a code fits isn't the braced form.
use Rattle.std.proofs.Common.{◌≡◌, Option, Some, None, refl, sym, ap, ◌∙◌}
use Rattle.std.specs.Prelude.{option_map}
use Rattle.std.specs.Int.{w128, from_be_bytes}
use Rattle.uuid.specs.Text.{parsed, parsed_braced}
use Rattle.mi_text.proofs.GuidLemmas.{braced_at_38}
use Rattle.mi_text.proofs.guid.Guid.read.Goals as goal

none_from : {A : Type 0} (o : Option A) → ((u : A) → o ≡ Some u → ⊥) → o ≡ None
none_from None h = refl
none_from (Some x) h = absurd (h x refl)

pub returns-in-Err : goal.returns-in-Err
returns-in-Err c =
    let none : parsed c.args.text.now ≡ None = none_from (parsed c.args.text.now) (λ u e. let k = c.in-Err.ensures.ok.1 (u, e) in absurd cc) in
    let braced : parsed_braced c.args.text.now ≡ None = sym (braced_at_38 c.args.text.now c.if-text-ne38.false) ∙ none in
    ap (option_map (from_be_bytes w128)) braced
