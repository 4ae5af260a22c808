-- Within the limit, nested too deep, or longer.
use Rattle.mi_records.proofs.TextLemmas.{within_ok, within_deep, within_long}
use Rattle.mi_records.proofs.text.expanded.Goals as goal

pub returns-in-Ok : goal.returns-in-Ok
returns-in-Ok g c = λ table row. within_ok c.args.limit (g.E.Env.lookups c.args.env.now) table row c.args.text.now c.in-Ok.text c.in-Ok.ensures

pub returns-in-Err-Fault-TooDeep : goal.returns-in-Err-Fault-TooDeep
returns-in-Err-Fault-TooDeep g c = λ table row.
    let fault = rw c.in-Err-Fault-TooDeep.field-0-is at c.in-Err-Fault-TooDeep.ensures in
    within_deep c.args.limit (g.E.Env.lookups c.args.env.now) table row c.args.text.now (rw c.in-Err-Fault-TooDeep.field-0-0-is at fault)

pub returns-in-Err-Fault-TooLong : goal.returns-in-Err-Fault-TooLong
returns-in-Err-Fault-TooLong g c = λ table row.
    let fault = rw c.in-Err-Fault-TooLong.field-0-is at c.in-Err-Fault-TooLong.ensures in
    within_long c.args.limit (g.E.Env.lookups c.args.env.now) table row c.args.text.now (rw c.in-Err-Fault-TooLong.field-0-0-is at fault)
