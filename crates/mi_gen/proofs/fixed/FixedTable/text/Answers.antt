use Rattle.std.proofs.Common.{sym, ap}
use Rattle.std.specs.Fmt.{digits}
use Rattle.mi_idt.specs.Written.{written}
use Rattle.mi_gen.specs.declared.fixed.FixedTable.{FixedTable}
use Rattle.mi_gen.specs.Tables.{fixed_file}
use Rattle.mi_gen.proofs.fixed.FixedTable.text.Goals as goal

pub returns-in-Property : goal.returns-in-Property
unfolding written digits
returns-in-Property c = ap (λ (t : FixedTable). (fixed_file t).1) (sym c.in-Property.is)

pub returns-in-Feature : goal.returns-in-Feature
unfolding written digits
returns-in-Feature c = ap (λ (t : FixedTable). (fixed_file t).1) (sym c.in-Feature.is)

pub returns-in-InstallExecuteSequence : goal.returns-in-InstallExecuteSequence
unfolding written digits
returns-in-InstallExecuteSequence c = ap (λ (t : FixedTable). (fixed_file t).1) (sym c.in-InstallExecuteSequence.is)

pub returns-in-Directory : goal.returns-in-Directory
unfolding written digits
returns-in-Directory c = ap (λ (t : FixedTable). (fixed_file t).1) (sym c.in-Directory.is)
