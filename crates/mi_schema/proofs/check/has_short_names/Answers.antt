use Rattle.std.proofs.Common.{ap}
use Rattle.std.specs.Prelude.{◌==◌}
use Rattle.mi_schema.proofs.CheckLemmas.{odd_bit}
use Rattle.mi_schema.proofs.check.has_short_names.Goals as goal

pub returns : goal.returns
returns c = ap (λ n. n == 1) (odd_bit c.word_count.result _ c.word_count.ensures)
