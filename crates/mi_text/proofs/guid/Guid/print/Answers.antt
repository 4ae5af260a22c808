-- What the braced form writes.
use Rattle.std.proofs.Common.{◌≡◌, ℕ, List, Result, Ok, Err, IfOk, ap, ◌∙◌}
use Rattle.std.specs.Int.{w128, to_be_bytes}
use Rattle.uuid.specs.Text.{braced_text, upper}
use Rattle.mi_text.specs.Guid.{guid_text}
use Rattle.mi_text.proofs.guid.Guid.print.Goals as goal

printed : {E : Type 0} (r : Result (List ℕ) E) (text xs : List ℕ) (n : ℕ) → IfOk r (λ t. t ≡ text) → text ≡ braced_text upper xs → xs ≡ to_be_bytes w128 n → IfOk r (λ t. t ≡ guid_text n)
printed (Ok t) text xs n a b e = a ∙ b ∙ ap (braced_text upper) e
printed (Err x) text xs n a b e = tt

pub returns : goal.returns
returns c = printed c.copy_of.result c.encode_upper-text.result.now c.braced-braced.result c.args.self.number c.copy_of.ensures c.encode_upper-text.ensures.text (c.braced-braced.ensures ∙ c.from_u128.ensures)
