use Rattle.mi_script.proofs.SpellLemmas.{written-spelled}
use Rattle.mi_script.proofs.laws.spelled_changes_make_the_machine.Goals as goal

pub returns : goal.returns
returns c m changes = written-spelled m changes
