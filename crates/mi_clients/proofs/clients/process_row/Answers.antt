-- The clients, and the count behind them.
use Rattle.mi_records.proofs.KeyLemmas.{keeps_on}
use Rattle.mi_clients.proofs.CountLemmas.{count_behind, no_count_behind}
use Rattle.mi_clients.proofs.clients.process_row.Goals as goal

pub returns-in-Ok-clause-row : goal.returns-in-Ok-clause-row
returns-in-Ok-clause-row g c = λ held files w asked guards.
    count_behind w c.args.row.now held files c.args.plan.now c.process_clients.new.plan c.process_count.new.plan c.process_count.result (c.in-Ok.ensures.row held files w asked) (c.process_count.ensures.row held files w asked guards)

pub returns-in-Ok-clause-keeps : goal.returns-in-Ok-clause-keeps
returns-in-Ok-clause-keeps g c = keeps_on c.args.plan.now c.process_clients.new.plan c.process_count.new.plan c.in-Ok.ensures.keeps c.process_count.ensures.keeps

pub returns-in-Err-clause-row : goal.returns-in-Err-clause-row
returns-in-Err-clause-row g c = λ held files w asked guards.
    no_count_behind w c.args.row.now held files c.args.plan.now c.process_clients.new.plan (Unit {0}) (Unit {0}) c.process_clients.new.plan c.in-Err.error (c.in-Err.ensures.row held files w asked)
