use Rattle.std.proofs.Common.{◌∙◌, sym}
use Rattle.mi_idt.specs.Means.{column_value}
use Rattle.mi_idt.proofs.StandLaws.{integer_field, text_field}
use Rattle.mi_idt.proofs.stands.stands.Goals as goal

pub returns-then-is_int : goal.returns-then-is_int
returns-then-is_int c = λ stands x spells. integer_field (column_value c.args.column.now) c.args.field.now x (sym c.is_int.ensures ∙ c.if-is_int.true) (sym c.integer_stands.ensures ∙ stands) spells

pub returns-else-is_int : goal.returns-else-is_int
returns-else-is_int c = λ stands x spells. text_field (column_value c.args.column.now) c.args.field.now (sym c.is_int.ensures ∙ c.if-is_int.false) (sym c.text_stands.ensures ∙ stands)
