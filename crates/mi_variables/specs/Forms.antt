-- What the program's values of Environment rows mean. (Environment Table, column Value.)
use Rattle.std.specs.Prelude.{Option, Some, None}
use Rattle.mi_model.specs.EnvironmentRows as model
use Rattle.mi_model.specs.Texts.{Text}
use Rattle.mi_model.specs.EnvironmentRows.{form_of}
use Rattle.mi_variables.specs.declared.form.Form.{Form}
use Rattle.mi_variables.specs.declared.form.Form.TheVariants.{Null, Whole, Behind, Before}

abbrev pub meant : Form → model.Form
meant Null = model.Null
meant (Whole text) = model.Whole text.now
meant (Behind part) = model.Behind part.now
meant (Before part) = model.Before part.now

-- the form of an expanded value, which may be null
abbrev pub form_told : Option Text → model.Form
form_told None = model.Null
form_told (Some text) = form_of text
