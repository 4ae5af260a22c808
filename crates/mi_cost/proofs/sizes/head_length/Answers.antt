use Rattle.std.proofs.Common.{arith}
use Rattle.mi_cost.proofs.SizeLemmas.{length-head_bytes}
use Rattle.mi_cost.proofs.sizes.head_length.Goals as goal

pub returns-clause-bytes : goal.returns-clause-bytes
returns-clause-bytes c = grind (arith, length-head_bytes c.args.head.now)
