use Rattle.mi_idt.proofs.LineLemmas.{text_line, no_text_line}
use Rattle.mi_idt.proofs.read.text_line.Goals as goal

pub returns-in-Ok : goal.returns-in-Ok
returns-in-Ok c = (text_line c.args.number c.args.line.now c.in-Ok.ensures.cases.1, c.in-Ok.ensures.cases.0)

pub returns-in-Err : goal.returns-in-Err
returns-in-Err c = no_text_line c.args.number c.args.line.now c.in-Err.ensures.cases.0
