use Rattle.mi_script.proofs.AgainLemmas.{script_again}
use Rattle.mi_script.proofs.laws.a_written_script_is_read_again.Goals as goal

pub returns : goal.returns
returns c recs few all = script_again recs few all
