-- With the guards.
use Rattle.mi_files.proofs.uncopy.remove_all.Goals as goal

pub returns-clause-rows : goal.returns-clause-rows
returns-clause-rows g c = λ held files w asked. c.remove_copies-done.ensures.rows held files w asked (c.in_ok-guards.ensures w asked)
