-- The result line of a log (this project's own).
use Rattle.std.specs.Prelude.{ℕ, nat_lt, if◌then◌else◌, List, [], ◌∷◌, ◌++◌, map, codes}
use Rattle.std.specs.List.{flat_map}
use Rattle.std.specs.Fmt.{decimal}
use Rattle.mi_text.specs.Guid.{guid_text}
use Rattle.mi_text.specs.declared.answers.Settled.{Settled}
use Rattle.mi_text.specs.declared.answers.Settled.TheVariants.{Clean, Undone}
use Rattle.mi_text.specs.declared.answers.IdtFault.{IdtFault}
use Rattle.mi_text.specs.declared.answers.IdtFault.TheVariants as idt
use Rattle.mi_base.specs.declared.answers.Kind.{Kind}
use Rattle.mi_base.specs.declared.answers.Kind.TheVariants.{Done, Listed, Recovered, Refused, Suspended, NoMemory}
use Rattle.mi_base.specs.declared.answers.Place.{Place}
use Rattle.mi_base.specs.declared.answers.Place.TheVariants.{InRollback, InCommit}
use Rattle.mi_base.specs.declared.answers.Cause.{Cause}
use Rattle.mi_base.specs.declared.answers.Cause.TheVariants.{BadWords, VolumeFault, BadRollback, RecoveryFull, BadImage, SourceFault, Table, UnknownProduct, Launch, ErrorAction, Full}
use Rattle.mi_base.specs.declared.answers.Fault.{Fault}
use Rattle.mi_base.specs.declared.answers.Fault.TheVariants as fault

-- bytes below 32 are written as `?`
abbrev pub shown : List ℕ → List ℕ
shown text = map (λ b. if nat_lt b 32 then 63 else b) text

-- the words of an answer: its name, and its fields, a nested one by its own words
abbrev pub idt_words : IdtFault → List (List ℕ)
idt_words idt.TooLarge = codes "TooLarge" ∷ []
idt_words idt.TooFewLines = codes "TooFewLines" ∷ []
idt_words (idt.NotUtf8 line) = codes "NotUtf8" ∷ decimal line ∷ []
idt_words (idt.ColumnName column) = codes "ColumnName" ∷ decimal column ∷ []
idt_words (idt.ColumnCount line) = codes "ColumnCount" ∷ decimal line ∷ []
idt_words (idt.Definition column) = codes "Definition" ∷ decimal column ∷ []
idt_words (idt.CodePage page) = codes "CodePage" ∷ decimal page ∷ []
idt_words (idt.KeyColumn name) = codes "KeyColumn" ∷ shown name ∷ []
idt_words (idt.Null row column) = codes "Null" ∷ decimal row ∷ decimal column ∷ []
idt_words (idt.Integer row column) = codes "Integer" ∷ decimal row ∷ decimal column ∷ []
idt_words (idt.TwoKeys row) = codes "TwoKeys" ∷ decimal row ∷ []

abbrev pub fault_words : Fault → List (List ℕ)
fault_words (fault.MissingTable table) = codes "MissingTable" ∷ shown table ∷ []
fault_words (fault.Idt table f) = codes "Idt" ∷ shown table ∷ idt_words f
fault_words (fault.Columns table) = codes "Columns" ∷ shown table ∷ []
fault_words (fault.Unsupported table) = codes "Unsupported" ∷ shown table ∷ []
fault_words (fault.Value table row column) = codes "Value" ∷ shown table ∷ decimal row ∷ decimal column ∷ []
fault_words (fault.Condition table row place) = codes "Condition" ∷ shown table ∷ decimal row ∷ decimal place ∷ []
fault_words (fault.MissingProperty name) = codes "MissingProperty" ∷ shown name ∷ []
fault_words (fault.Reference table row column) = codes "Reference" ∷ shown table ∷ decimal row ∷ decimal column ∷ []
fault_words (fault.Cycle table row) = codes "Cycle" ∷ shown table ∷ decimal row ∷ []
fault_words (fault.Compressed file) = codes "Compressed" ∷ shown file ∷ []
fault_words (fault.UnknownFeature item) = codes "UnknownFeature" ∷ shown item ∷ []
fault_words fault.AddSource = codes "AddSource" ∷ []
fault_words (fault.BadProperty name) = codes "BadProperty" ∷ shown name ∷ []
fault_words (fault.BadPath table row) = codes "BadPath" ∷ shown table ∷ decimal row ∷ []
fault_words (fault.TooDeep table row) = codes "TooDeep" ∷ shown table ∷ decimal row ∷ []
fault_words (fault.BadKey table row) = codes "BadKey" ∷ shown table ∷ decimal row ∷ []
fault_words (fault.BadValue table row) = codes "BadValue" ∷ shown table ∷ decimal row ∷ []
fault_words (fault.BadEnvironment row) = codes "BadEnvironment" ∷ decimal row ∷ []
fault_words (fault.SameTarget former later) = codes "SameTarget" ∷ shown former ∷ shown later ∷ []
fault_words (fault.Missing file) = codes "Missing" ∷ shown file ∷ []
fault_words (fault.SizeDiffers file stated found) = codes "SizeDiffers" ∷ shown file ∷ decimal stated ∷ decimal found ∷ []
fault_words (fault.UnknownAction action) = codes "UnknownAction" ∷ shown action ∷ []
fault_words (fault.Executable action) = codes "Executable" ∷ shown action ∷ []
fault_words (fault.SequenceOrder action) = codes "SequenceOrder" ∷ shown action ∷ []
fault_words fault.NoFinalize = codes "NoFinalize" ∷ []
fault_words (fault.BadName action) = codes "BadName" ∷ shown action ∷ []

abbrev pub cause_words : Cause → List (List ℕ)
cause_words (BadWords place) = codes "BadWords" ∷ decimal place ∷ []
cause_words VolumeFault = codes "VolumeFault" ∷ []
cause_words (BadRollback name) = codes "BadRollback" ∷ shown name ∷ []
cause_words (RecoveryFull name) = codes "RecoveryFull" ∷ shown name ∷ []
cause_words (BadImage name) = codes "BadImage" ∷ shown name ∷ []
cause_words SourceFault = codes "SourceFault" ∷ []
cause_words (Table f) = codes "Table" ∷ fault_words f
cause_words (UnknownProduct code) = codes "UnknownProduct" ∷ guid_text code.number ∷ []
cause_words (Launch text) = codes "Launch" ∷ shown text ∷ []
cause_words (ErrorAction action text) = codes "ErrorAction" ∷ shown action ∷ shown text ∷ []
cause_words (Full need room) = codes "Full" ∷ decimal need ∷ decimal room ∷ []

abbrev pub settled_words : Settled → List (List ℕ)
settled_words Clean = codes "Clean" ∷ []
settled_words (Undone n) = codes "Undone" ∷ decimal n ∷ []

abbrev pub place_words : Place → List (List ℕ)
place_words InRollback = codes "InRollback" ∷ []
place_words InCommit = codes "InCommit" ∷ []

abbrev pub result_words : Kind → List (List ℕ)
result_words Done = codes "Done" ∷ []
result_words Listed = codes "Listed" ∷ []
result_words (Recovered settled) = settled_words settled
result_words (Refused cause) = codes "Refused" ∷ cause_words cause
result_words (Suspended pause) = codes "Suspended" ∷ place_words pause.place
result_words NoMemory = codes "NoMemory" ∷ []

-- each word behind a blank
abbrev pub spaced : List (List ℕ) → List ℕ
spaced words = flat_map (λ word. 32 ∷ word) words

abbrev pub result_line : Kind → List ℕ
result_line kind = codes "Result:" ++ spaced (result_words kind) ++ 10 ∷ []

-- what settling the rollback area has undone
abbrev pub recovered_line : Settled → List ℕ
recovered_line Clean = []
recovered_line (Undone n) = codes "Recovered: " ++ decimal n ++ 10 ∷ []

abbrev pub action_line : List ℕ → List ℕ
action_line name = codes "Action: " ++ shown name ++ 10 ∷ []
