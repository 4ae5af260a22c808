-- Variables of the environment, by computation. (Environment Table.)
use Rattle.std.proofs.Common.{◌≡◌, true, [], ◌∷◌, Option, Some, None, refl}
use Rattle.std.specs.Prelude.{codes, negsuc, Err}
use Rattle.mi_base.specs.declared.answers.Fault.TheVariants.{BadEnvironment}
use Rattle.mi_base.specs.declared.entry.Entry.{Entry}
use Rattle.mi_base.specs.declared.entry.Entry.TheVariants.{Variable as VariableEntry}
use Rattle.mi_base.specs.Limits.{is_variable_name}
use Rattle.mi_base.specs.Machine.{as_variable}
use Rattle.mi_text.specs.Lookups.{Lookups}
use Rattle.mi_model.specs.Texts.{Text}
use Rattle.mi_model.specs.EnvironmentRows.{Behind, form_of, environment_form}
use Rattle.mi_model.specs.WriteEnvironmentStrings.{variable_after}
use Rattle.mi_model.specs.RemoveEnvironmentStrings.{variable_less}

abbrev acme : Text → Option Entry
acme text = Some (VariableEntry (record { system = true; name = codes "ACME"; value = text }))

abbrev nothing : Lookups
nothing = record { property = λ n. []; variable = λ n. []; file = λ n. []; folder = λ n. []; state = λ sign key. negsuc 0 }

-- `[~];C:\App` is a part that is appended
a_part : form_of (0 ∷ codes ";C:\\App") ≡ Behind (codes "C:\\App")
a_part = refl

is_appended : variable_after (codes "*=-ACME") (Behind (codes "C:\\App")) (acme (codes "x")) ≡ acme (codes "x;C:\\App")
unfolding variable_after
is_appended = refl

-- it stands there already, in whichever case
isnt_appended_twice : variable_after (codes "*=-ACME") (Behind (codes "C:\\App")) (acme (codes "c:\\app;x")) ≡ acme (codes "c:\\app;x")
unfolding variable_after
isnt_appended_twice = refl

is_taken_out : variable_less true (Behind (codes "C:\\App")) (as_variable (acme (codes "x;C:\\App"))) ≡ acme (codes "x")
is_taken_out = refl

-- `=` and `+` don't stand together
two_prefixes : environment_form nothing (record { number = 1; row = record { environment = codes "E1"; name = codes "=+ACME"; value = None; component = codes "CFile" } }) ≡ Err (BadEnvironment 1)
unfolding environment_form is_variable_name
two_prefixes = refl
