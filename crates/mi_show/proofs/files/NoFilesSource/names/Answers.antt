use Rattle.std.proofs.Common.{sym, ◌∙◌}
use Rattle.mi_show.proofs.ImageLemmas.{no_names}
use Rattle.mi_show.proofs.files.NoFilesSource.names.Goals as goal

pub returns-clause-value : goal.returns-clause-value
returns-clause-value c = λ told. c.new.ensures.items ∙ sym (no_names _)
