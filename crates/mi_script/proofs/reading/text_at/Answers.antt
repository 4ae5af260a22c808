use Rattle.mi_script.proofs.AgainLemmas.{text_read, text_refused}
use Rattle.mi_script.proofs.reading.text_at.Goals as goal

pub returns-in-Ok : goal.returns-in-Ok
returns-in-Ok c = let r = text_read c.args.bytes.now c.in_ok-text.text.now c.in_ok-text.rest.now c.in_ok-text.ensures c.in-Ok.ensures.cases.1 in rw c.in-Ok.ensures.cases.0 r

pub returns-in-Err : goal.returns-in-Err
returns-in-Err c = text_refused c.args.bytes.now c.in_ok-text.text.now c.in_ok-text.rest.now c.in_ok-text.ensures c.in-Err.ensures.cases.0
