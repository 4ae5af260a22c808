use Rattle.std.proofs.Common.{◌≡◌, true, List, ℕ, ◌+◌, ◌++◌, length, subst, sym, ap, ◌∙◌, arith}
use Rattle.std.specs.Str.{is_utf8}
use Rattle.mi_image.proofs.BufferLemmas.{placed, utf8_behind}
use Rattle.mi_image.proofs.buffer.NameBuffer.push_str.Goals as goal

pub returns-clause-fits : goal.returns-clause-fits
returns-clause-fits c =
    placed c.self.inside.bytes c.copy_from_slice.new.self c.args.text.now c.self.inside.len (c.self.inside.len + length c.as_bytes-text.result.now) (omega (arith, c.self.invariant.0)) (omega (arith, c.as_bytes-text.ensures.len)) (c.copy_from_slice.ensures.after ∙ c.as_bytes-text.ensures.value)
    ∙ ap (λ (old : List ℕ). old ++ c.args.text.now) c.self.view_is

pub invariant_of-self : goal.invariant_of-self
invariant_of-self c = (
  omega (arith, c.self.invariant.0),
  subst (λ (t : List ℕ). is_utf8 t ≡ true)
      (sym (placed c.self.inside.bytes c.copy_from_slice.new.self c.as_bytes-text.result.now c.self.inside.len (c.self.inside.len + length c.as_bytes-text.result.now) (omega (arith, c.self.invariant.0)) (omega arith) c.copy_from_slice.ensures.after))
      (utf8_behind _ c.as_bytes-text.result.now c.self.invariant.1 c.as_bytes-text.ensures.utf8),
)
