use Rattle.mi_script.proofs.reading.copy_at.Goals as goal

pub returns : goal.returns
returns c = rw c.in_ok-head.ensures (c.in-Ok.ensures c.in_ok-head.head)

pub returns-in-Err : goal.returns-in-Err
returns-in-Err c = rw c.in_ok-head.ensures (c.in-Err.ensures c.in_ok-head.head)
