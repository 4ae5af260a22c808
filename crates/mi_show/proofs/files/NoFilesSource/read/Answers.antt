use Rattle.std.proofs.Common.{sym, ◌∙◌}
use Rattle.mi_show.proofs.ImageLemmas.{no_bytes}
use Rattle.mi_show.proofs.files.NoFilesSource.read.Goals as goal

pub returns-clause-value : goal.returns-clause-value
returns-clause-value c = λ told. c.new.ensures ∙ sym (no_bytes _ _ _)
