-- Columns of a row, expanded and judged. (Registry Table, columns Key and Name.)
use Rattle.std.specs.Prelude.{ℕ, Option, Result, Ok}
use Rattle.mi_text.specs.Lookups.{Lookups}
use Rattle.mi_base.specs.declared.answers.Fault.{Fault}
use Rattle.mi_model.specs.Texts.{Text}
use Rattle.mi_model.specs.Refusals.{◌>>=◌, expanded, expanded_or_empty}
use Rattle.mi_model.specs.RegistryRows.{RegistryPlace, good_key, good_name}

abbrev pub key_of : Lookups → Text → ℕ → Text → Result Text Fault
key_of L table row key = expanded L table row key >>= good_key table row

abbrev pub judged_name : Text → ℕ → Result Text Fault → Result Text Fault
judged_name table row name = name >>= good_name table row

abbrev pub name_of : Lookups → Text → ℕ → Option Text → Result Text Fault
name_of L table row name = judged_name table row (expanded_or_empty L table row name)

-- the place of a root and a key, with this name
abbrev pub named_at : ℕ → Text → Result Text Fault → Result RegistryPlace Fault
named_at root key name = name >>= λ whole_name. Ok (record { root = root; key = key; name = whole_name })
