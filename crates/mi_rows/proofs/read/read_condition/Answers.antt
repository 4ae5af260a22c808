use Rattle.std.proofs.Common.{Some, sym, ap, ◌∙◌}
use Rattle.mi_rows.specs.declared.field.Bad.TheVariants as bad
use Rattle.mi_rows.proofs.ConditionLaws.{read_as, refused_as}
use Rattle.mi_rows.proofs.read.read_condition.Goals as goal

pub returns-in-Ok : goal.returns-in-Ok
returns-in-Ok c = read_as c.args.text.now c.in-Ok.condition c.in-Ok.ensures.answer

pub returns-in-Err-Fault : goal.returns-in-Err-Fault
returns-in-Err-Fault c =
    let cause = rw c.in-Err-Fault.field-0-is at c.in-Err-Fault.ensures.answer in
    refused_as c.args.text.now c.in-Err-Fault.fault cause ∙ ap (λ n. Some (bad.Condition n)) (sym c.place_in.ensures)
