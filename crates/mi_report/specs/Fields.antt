-- What stands behind the name of a fault in a result line (this project's own).
use Rattle.std.specs.Prelude.{ℕ, List, [], ◌∷◌}
use Rattle.std.specs.Fmt.{decimal}
use Rattle.mi_model.specs.Lines.{shown, idt_words}
use Rattle.mi_report.specs.declared.words.Fields.{Fields}
use Rattle.mi_report.specs.declared.words.Fields.TheVariants as fields

abbrev pub field_words : Fields → List (List ℕ)
field_words fields.None = []
field_words (fields.Text text) = shown text.now ∷ []
field_words (fields.Texts first second) = shown first.now ∷ shown second.now ∷ []
field_words (fields.Number number) = decimal number ∷ []
field_words (fields.Row text number) = shown text.now ∷ decimal number ∷ []
field_words (fields.Cell text first second) = shown text.now ∷ decimal first ∷ decimal second ∷ []
field_words (fields.Nested table fault) = shown table.now ∷ idt_words fault.now
