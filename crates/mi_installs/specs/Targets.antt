-- Rows of File whose files are one, as the program finds them. (File Table.)
use Rattle.std.specs.Prelude.{Option, option_map}
use denote.Ref.{Bor}
use Rattle.mi_base.specs.declared.answers.Fault.{Fault}
use Rattle.mi_base.specs.declared.answers.Fault.TheVariants.{SameTarget}
use Rattle.mi_schema.specs.declared.typed_rows.FileRow.{FileRow}

-- that a row has the target of an earlier one
abbrev pub fault_of : Option (Bor FileRow × Bor FileRow) → Option Fault
fault_of found = option_map (λ rs. SameTarget rs.0.now.file rs.1.now.file) found
