use Rattle.mi_script.proofs.SpellLemmas.{a_written_file_stays}
use Rattle.mi_script.proofs.laws.a_written_file_is_spelled.Goals as goal

pub returns : goal.returns
returns c d change is = a_written_file_stays d change is
