-- The rows that were read.
use Rattle.std.specs.Prelude.{◌≡◌, ℕ, List, map}
use Rattle.mi_idt.specs.declared.rows.Body.{Body}
use Rattle.mi_idt.specs.Fields.{fields_of}
use Rattle.mi_idt.specs.Means.{raw_row, AreLaid}

abbrev pub AreRead : Body → List (List ℕ) → Type 0
AreRead b lines = (map raw_row b.rows.items ≡ map fields_of lines) × AreLaid b.rows.items b.fields.items
