use Rattle.mi_print_looks.proofs.SetLemmas.{set_step}
use Rattle.mi_print_looks.proofs.name_set.NameSet.add_all.Goals as goal

pub loop-name-preserved : goal.loop-name-preserved
loop-name-preserved c = λ had is. set_step had c.args.names.now c.loop-name.name-index _ c.loop-name.self c.add.new.self c.loop-name-test.true (c.loop-name.invariant had is) c.in_ok-add.ensures
