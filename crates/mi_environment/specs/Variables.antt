-- What rows of Environment do to variables, by what the program keeps of them. (Environment Table.)
use Rattle.std.specs.Prelude.{◌≡◌, ℕ, Bool, false, not, ◌&&◌, ◌||◌, if◌then◌else◌, List, [], ◌∷◌, Option, Some, None, Ok}
use Rattle.std.specs.Str.{bytes_eq}
use Rattle.mi_text.specs.Maps.{Name}
use Rattle.mi_base.specs.declared.entry.Entry.{Entry}
use Rattle.mi_base.specs.declared.entry.Entry.TheVariants.{Variable as VariableEntry}
use Rattle.mi_base.specs.declared.entry.Variable.{Variable}
use Rattle.mi_base.specs.Machine.{as_variable}
use Rattle.mi_base.specs.Spelling.{name_of}
use Rattle.mi_changes.specs.Touches.{Touch, Set}
use Rattle.mi_schema.specs.declared.typed_rows.EnvironmentRow.{EnvironmentRow}
use Rattle.mi_model.specs.Texts.{Text}
use Rattle.mi_model.specs.World.{World, RowEffect}
use Rattle.mi_model.specs.Asked.{keeps}
use Rattle.mi_model.specs.Refusals.{unless}
use Rattle.mi_model.specs.EnvironmentRows.{Form, named_variable, removes, clears}
use Rattle.mi_model.specs.WriteEnvironmentStrings.{variable_fault, variable_after}
use Rattle.mi_model.specs.RemoveEnvironmentStrings.{variable_less}
use Rattle.mi_records.specs.Choices.{Choices}

-- ---- rows that write

-- what a row writes whose Name is good and whose Value has this form
abbrev pub write_effect : ℕ → Text → Form → RowEffect
write_effect row name form m = unless (variable_fault m row name form) (Ok (Set (named_variable name) (variable_after name form) ∷ []))

-- ---- rows that remove

-- the row takes its variable, or a part of it, away
abbrev pub is_taken : Choices → EnvironmentRow → Bool
is_taken c r = (c.leaving r.component && removes r.name) || (c.local r.component && clears r.name)

-- the variable that a row guards
abbrev pub guard_of : World → EnvironmentRow → Option Name
guard_of w r = if keeps w r.component then Some (named_variable r.name) else None

-- a variable with another value is held
abbrev pub has_other_value : Text → Option Variable → Bool
has_other_value text None = false
has_other_value text (Some v) = not (bytes_eq v.value text)

-- it is held under this name
abbrev pub IsHeldAt : Name → Variable → Type 0
IsHeldAt q v = name_of (VariableEntry v) ≡ q

-- what a row takes, unless it leaves and its variable is guarded
abbrev pub taken_touches : Bool → (Name → Bool) → Text → Form → List (Touch Entry)
taken_touches leaving guarded name form =
    if leaving && guarded (named_variable name) then []
    else Set (named_variable name) (λ old. variable_less leaving form (as_variable old)) ∷ []
