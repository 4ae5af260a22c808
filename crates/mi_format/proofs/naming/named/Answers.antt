use Rattle.std.proofs.Common.{arith, inl, inr}
use Rattle.mi_format.proofs.TokenLemmas.{behind_first}
use Rattle.mi_format.proofs.naming.named.Goals as goal

pub range_from-requires : goal.range_from-requires
range_from-requires g c = λ _. behind_first c.as_bytes.result.now c.args.inside.now c.as_bytes.ensures.value c.utf8.inside c.in-len2-up.len_at_least (omega (arith, c.in-37.is))

pub range_from-requires-in-35 : goal.range_from-requires-in-35
range_from-requires-in-35 g c = λ _. behind_first c.as_bytes.result.now c.args.inside.now c.as_bytes.ensures.value c.utf8.inside c.in-len2-up.len_at_least (elim c.in-35.is [ inl e ↦ omega (arith, e) | inr e ↦ omega (arith, e) ])

pub range_from-requires-in-36 : goal.range_from-requires-in-36
range_from-requires-in-36 g c = λ _. behind_first c.as_bytes.result.now c.args.inside.now c.as_bytes.ensures.value c.utf8.inside c.in-len2-up.len_at_least (omega (arith, c.in-36.is))
