use Rattle.std.proofs.Common.{◌∙◌, ◌++◌, ap}
use Rattle.mi_idt.proofs.Basics.{shown}
use Rattle.mi_idt.specs.Fields.{fields_of}
use Rattle.mi_idt.proofs.lines.text_fields.Goals as goal

pub returns : goal.returns
returns c = c.in_ok-push_fields.ensures ∙ ap (λ fs. shown fs ++ fields_of c.args.line.now) c.in_ok-fields.ensures.items
