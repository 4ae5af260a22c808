use Rattle.std.proofs.Common.{sym, ap, length}
use Rattle.std.specs.Prelude.{option_map}
use Rattle.mi_show.proofs.ImageLemmas.{nothing_at}
use Rattle.mi_show.proofs.files.NoFilesSource.size.Goals as goal

pub returns-clause-value : goal.returns-clause-value
returns-clause-value c = λ told. ap (option_map length) (sym (nothing_at _))
