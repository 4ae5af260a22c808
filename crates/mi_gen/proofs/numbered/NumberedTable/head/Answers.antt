use Rattle.std.proofs.Common.{sym, ap}
use Rattle.std.specs.Fmt.{digits}
use Rattle.mi_idt.specs.Written.{written}
use Rattle.mi_gen.specs.declared.numbered.NumberedTable.{NumberedTable}
use Rattle.mi_gen.specs.Tables.{numbered_file}
use Rattle.mi_gen.proofs.numbered.NumberedTable.head.Goals as goal

pub returns-in-Component : goal.returns-in-Component
unfolding written digits
returns-in-Component c rows = ap (λ (t : NumberedTable). (numbered_file t rows).1) (sym c.in-Component.is)

pub returns-in-FeatureComponents : goal.returns-in-FeatureComponents
unfolding written digits
returns-in-FeatureComponents c rows = ap (λ (t : NumberedTable). (numbered_file t rows).1) (sym c.in-FeatureComponents.is)

pub returns-in-File : goal.returns-in-File
unfolding written digits
returns-in-File c rows = ap (λ (t : NumberedTable). (numbered_file t rows).1) (sym c.in-File.is)

pub returns-in-Registry : goal.returns-in-Registry
unfolding written digits
returns-in-Registry c rows = ap (λ (t : NumberedTable). (numbered_file t rows).1) (sym c.in-Registry.is)
