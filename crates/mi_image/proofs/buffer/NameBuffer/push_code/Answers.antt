use Rattle.std.proofs.Common.{◌≡◌, ◌+◌, ◌++◌, ◌<◌, List, ℕ, length, subst, ap, ◌∙◌}
use Rattle.std.specs.Bool.{OnTrue, OnFalse}
use Rattle.std.specs.Int.{w128, to_be_bytes}
use Rattle.uuid.specs.Text.{braced_text, upper}
use Rattle.mi_text.specs.Guid.{guid_text}
use Rattle.mi_image.proofs.buffer.NameBuffer.push_code.Goals as goal

-- what was written is the code's text
written : (text xs : List ℕ) (n : ℕ) → text ≡ braced_text upper xs → xs ≡ to_be_bytes w128 n → text ≡ guid_text n
written text xs n is bytes = is ∙ ap (braced_text upper) bytes

pub returns-clause-fits : goal.returns-clause-fits
returns-clause-fits c =
    let is = written c.encode_upper-text.result.now c.braced-braced.result c.args.code.number c.encode_upper-text.ensures.text (c.braced-braced.ensures ∙ c.from_u128.ensures) in
    subst (λ (t : List ℕ). OnTrue c.push_str.result (c.push_str.new.self ≡ c.args.self.now ++ t)) is c.push_str.ensures.fits

pub returns-clause-full : goal.returns-clause-full
returns-clause-full c =
    let is = written c.encode_upper-text.result.now c.braced-braced.result c.args.code.number c.encode_upper-text.ensures.text (c.braced-braced.ensures ∙ c.from_u128.ensures) in
    subst (λ (t : List ℕ). OnFalse c.push_str.result (1024 < length c.args.self.now + length t)) is c.push_str.ensures.full
