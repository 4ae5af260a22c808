use Rattle.std.proofs.Common.{◌≡◌, ℕ, List, ◌++◌, length, sym, ap, ◌∙◌, arith, length-append}
use Rattle.std.specs.Prelude.{encode_utf8}
use Rattle.std.proofs.lemmas.Str.{chars_past_char, length-encode, len_utf8_bounds}
use Rattle.mi_format.proofs.escape.first_char.Goals as goal

pub returns-in-Some : goal.returns-in-Some
returns-in-Some c =
    let text = c.args.text.now in
    let rest = c.as_str.result.now in
    let first = c.in-Some.first in
    let is : text ≡ encode_utf8 first ++ rest = sym c.chars-rest.ensures.rest ∙ c.in-Some.ensures.steps.0 ∙ ap (λ (r : List ℕ). encode_utf8 first ++ r) (sym c.as_str.ensures) in
    (chars_past_char text rest first c.utf8.text is, omega (arith, ap length is, length-append (encode_utf8 first) rest, length-encode first, len_utf8_bounds first))
