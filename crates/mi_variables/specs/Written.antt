-- What a row of Environment writes. (WriteEnvironmentStrings Action; Environment Table, columns Name and Value.)
use Rattle.std.specs.Prelude.{Option, None, if◌then◌else◌}
use Rattle.mi_model.specs.Texts.{Text}
use Rattle.mi_model.specs.EnvironmentRows.{Form}
use Rattle.mi_model.specs.WriteEnvironmentStrings.{is_to_write, text_after}

-- the text that a row writes over the old one, if any
abbrev pub written_text : Text → Form → Option Text → Option Text
written_text name form old = if is_to_write name old then text_after form old else None
