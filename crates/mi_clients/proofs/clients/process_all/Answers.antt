-- With the set of what is guarded.
use Rattle.mi_clients.proofs.clients.process_all.Goals as goal

pub returns-in-Ok-clause-rows : goal.returns-in-Ok-clause-rows
returns-in-Ok-clause-rows g c = λ held files w asked is. c.process_rows-done.ensures.rows held files w asked (c.in-Ok.ensures w asked is)
