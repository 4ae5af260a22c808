use Rattle.std.proofs.Common.{◌∙◌, ap, is_some}
use Rattle.mi_idt.proofs.LineLemmas.{some_if, utf8_line, no_line}
use Rattle.mi_idt.proofs.rows.line_text.Goals as goal

pub returns-in-Ok-clause-is : goal.returns-in-Ok-clause-is
returns-in-Ok-clause-is c = ap is_some c.then_some.ensures ∙ some_if c.is_in_page.result c.in-Ok.text ∙ c.is_in_page.ensures ∙ utf8_line c.args.page c.args.line.now c.in-Ok.ensures.cases.1

pub returns-in-Err-clause-is : goal.returns-in-Err-clause-is
returns-in-Err-clause-is c = no_line c.args.page c.args.line.now c.in-Err.ensures.cases.0
