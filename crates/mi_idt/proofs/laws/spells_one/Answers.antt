use Rattle.mi_idt.proofs.TableLaws.{one_table}
use Rattle.mi_idt.proofs.laws.spells_one.Goals as goal

pub returns : goal.returns
returns c bytes table other is spelled = one_table bytes table other is spelled
