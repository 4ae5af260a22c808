-- What the program's rows mean. (Registry Table; RemoveRegistry Table.)
use Rattle.std.specs.Prelude.{ℕ}
use Rattle.mi_schema.specs.TableRows.{Numbered}
use Rattle.mi_model.specs.RegistryRows as model
use Rattle.mi_records.specs.declared.says.Says.{Says}
use Rattle.mi_records.specs.declared.says.Says.TheVariants.{KeyAlone, Makes, Removes, MakesAndRemoves, Writes}
use Rattle.mi_records.specs.declared.meaning.RegistryMeaning.{RegistryMeaning}

-- what a row says
abbrev pub meant : Says → model.Says
meant KeyAlone = model.KeyAlone
meant Makes = model.Makes
meant Removes = model.Removes
meant MakesAndRemoves = model.MakesAndRemoves
meant (Writes text) = model.Writes text

-- a whole row
abbrev pub whole : RegistryMeaning → model.RegistryMeaning
whole m = record { place = m.place; says = meant m.says }

-- a row with its number in the file, from 1
abbrev pub numbered : {R : Type 0} → ℕ → R → Numbered R
numbered number row = record { number = number; row = row }
