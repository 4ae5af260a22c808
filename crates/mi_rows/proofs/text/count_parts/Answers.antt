use Rattle.std.proofs.Common.{arith, ◌==◌}
use Rattle.std.proofs.lemmas.List.Splits.{length-slice_split}
use Rattle.mi_rows.proofs.text.count_parts.Goals as goal

pub returns : goal.returns
returns c = grind (arith, length-slice_split (λ b. b == c.args.mark) c.args.text.now)
