-- What the readers answer.
use Rattle.std.specs.Prelude.{◌≡◌, ℕ, List, Some, Result, Ok, Err}
use Rattle.mi_idt.specs.declared.table.Table.{Table}
use Rattle.mi_idt.specs.declared.table.IdtError.{IdtError}
use Rattle.mi_idt.specs.declared.table.IdtError.TheVariants as error
use Rattle.mi_idt.specs.Fault.{idt_fault}
use Rattle.mi_idt.specs.Means.{IsSpelledBy}

-- a table that the bytes spell, or their first fault; want of memory may come at any time
abbrev pub ReadsTable : Result Table IdtError → List ℕ → Type 0
ReadsTable (Ok t) bytes = IsSpelledBy bytes t
ReadsTable (Err error.NoMemory) bytes = Unit {0}
ReadsTable (Err (error.Fault f)) bytes = idt_fault bytes ≡ Some f
