use Rattle.std.proofs.Common.{arith}
use Rattle.mi_idt.proofs.LineLemmas.{length_fields}
use Rattle.mi_idt.proofs.lines.count_fields.Goals as goal

pub returns : goal.returns
returns c = grind (arith, length_fields c.args.line.now)
