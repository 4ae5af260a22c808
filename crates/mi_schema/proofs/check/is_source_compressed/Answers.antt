use Rattle.std.proofs.Common.{ap}
use Rattle.std.specs.Prelude.{◌==◌}
use Rattle.mi_schema.proofs.CheckLemmas.{next_bit}
use Rattle.mi_schema.proofs.check.is_source_compressed.Goals as goal

pub returns : goal.returns
returns c = ap (λ n. n == 1) (next_bit c.word_count.result _ c.word_count.ensures)
