use Rattle.std.proofs.Common.{◌∙◌, arith}
use Rattle.mi_schema.proofs.CheckLemmas.{low_step}
use Rattle.mi_schema.proofs.check.low_bits.Goals as goal

pub loop-digit-preserved : goal.loop-digit-preserved
loop-digit-preserved c = (
  omega arith,
  low_step c.as_bytes-digit-items.result.now c.loop-digit.digit-index c.loop-digit.bits c.from.result _ c.loop-digit-test.true (c.from.ensures ∙ c.saturating_sub.ensures) c.loop-digit.invariant.1,
)
