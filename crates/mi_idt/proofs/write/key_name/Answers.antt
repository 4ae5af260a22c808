use Rattle.mi_idt.proofs.NameLemmas.{name_at, no_name_at}
use Rattle.mi_idt.proofs.write.key_name.Goals as goal

pub returns-then-place-columns : goal.returns-then-place-columns
returns-then-place-columns c = name_at c.args.columns.now c.args.key _ c.if-place-columns.true

pub returns-else-place-columns : goal.returns-else-place-columns
returns-else-place-columns c = no_name_at c.args.columns.now c.args.key c.if-place-columns.false
