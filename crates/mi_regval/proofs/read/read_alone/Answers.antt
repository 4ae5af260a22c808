use Rattle.mi_regval.proofs.ChangeLemmas.{plain_is, fault_read}
use Rattle.mi_regval.proofs.read.read_alone.Goals as goal

pub returns-in-Ok : goal.returns-in-Ok
returns-in-Ok c = λ old e. plain_is c.args.text.now old c.in-Ok.value e c.in-Ok.ensures

pub returns-in-Err : goal.returns-in-Err
returns-in-Err c = λ old e. fault_read c.args.text.now old c.in-Err.error e c.in-Err.ensures
