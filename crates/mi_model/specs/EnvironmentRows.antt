-- What a row of Environment says. (Environment Table. That a part is added or taken by `;`, and that an empty Value writes nothing, is
-- this project's own.)
use Rattle.std.specs.Prelude.{ℕ, ◌==◌, ◌-◌, ◌&&◌, ◌||◌, not, nat_lt, Bool, false, if◌then◌else◌, [], ◌∷◌, length, take, drop, take_while, count_by, codes, nat_eq, Option, Some, None, Result, Ok}
use Rattle.std.specs.List.{list_any, starts_with, ends_with}
use Rattle.mi_text.specs.Maps.{Name}
use Rattle.mi_text.specs.Lookups.{Lookups}
use Rattle.mi_base.specs.Limits.{is_variable_name, has_no_zero}
use Rattle.mi_base.specs.Names.{variable_name}
use Rattle.mi_schema.specs.declared.typed_rows.EnvironmentRow.{EnvironmentRow}
use Rattle.mi_model.specs.Texts.{Text}
use Rattle.mi_base.specs.declared.answers.Fault.{Fault}
use Rattle.mi_base.specs.declared.answers.Fault.TheVariants.{BadEnvironment}
use Rattle.mi_schema.specs.TableRows.{Numbered}
use Rattle.mi_model.specs.Refusals.{◌>>=◌, expanded, unless}

-- ---- the column Name: prefixes out of `= + - ! *`, then the variable

abbrev pub is_any_of : Text → ℕ → Bool
is_any_of bytes b = list_any (λ c. b == c) bytes

abbrev pub prefixes_of : Text → Text
prefixes_of name = take_while (is_any_of (codes "=+-!*")) name

abbrev pub variable_in : Text → Text
variable_in name = drop (length (prefixes_of name)) name

-- a prefix; a name with none of `= + ! -` has `=` and `-`
abbrev pub has_prefix : ℕ → Text → Bool
has_prefix b name = is_any_of (prefixes_of name) b || (not (list_any (is_any_of (codes "=+!-")) (prefixes_of name)) && is_any_of (codes "=-") b)

-- it sets the variable; only where there is none; it is taken away with the component; or before the component is installed
abbrev pub sets : Text → Bool
sets name = has_prefix 61 name

abbrev pub creates : Text → Bool
creates name = has_prefix 43 name

abbrev pub removes : Text → Bool
removes name = has_prefix 45 name

abbrev pub clears : Text → Bool
clears name = has_prefix 33 name

-- a variable of the system, else of the user
abbrev pub is_of_system : Text → Bool
is_of_system name = is_any_of (prefixes_of name) 42

unfoldable pub named_variable : Text → Name
named_variable name = variable_name (is_of_system name) (variable_in name)

abbrev pub repeats : Text → Bool
repeats [] = false
repeats (b ∷ bs) = is_any_of bs b || repeats bs

-- a prefix stands twice, two of `= + !` stand together, or the variable is none
abbrev pub is_bad_name : Text → Bool
is_bad_name name = repeats (prefixes_of name) || nat_lt 1 (count_by (is_any_of (codes "=+!")) (prefixes_of name)) || not (is_variable_name (variable_in name))

-- ---- the column Value

pub data Form : Type 0 where
  Null : Form
  Whole : (text : Text) → Form
  -- `[~];` and a part, which is appended
  Behind : (part : Text) → Form
  -- a part and `;[~]`, which is put in front
  Before : (part : Text) → Form

abbrev pub form_of : Text → Form
form_of text =
    if starts_with nat_eq text (0 ∷ 59 ∷ []) then Behind (drop 2 text)
    else if ends_with nat_eq text (59 ∷ 0 ∷ []) then Before (take (length text - 2) text)
    else Whole text

-- no byte 0 but the mark of a part
abbrev pub is_bad_form : Form → Bool
is_bad_form Null = false
is_bad_form (Whole text) = not (has_no_zero text)
is_bad_form (Behind part) = not (has_no_zero part)
is_bad_form (Before part) = not (has_no_zero part)

abbrev pub refused_if : Bool → ℕ → Option Fault
refused_if bad row = if bad then Some (BadEnvironment row) else None

abbrev pub good_form : ℕ → Form → Result Form Fault
good_form row form = unless (refused_if (is_bad_form form) row) (Ok form)

abbrev pub form_in : Lookups → ℕ → Option Text → Result Form Fault
form_in L row None = Ok Null
form_in L row (Some value) = expanded L (codes "Environment") row value >>= λ text. good_form row (form_of text)

-- a row's value, or the row's first refusal
unfoldable pub environment_form : Lookups → Numbered EnvironmentRow → Result Form Fault
environment_form L r = unless (refused_if (is_bad_name r.row.name) r.number) (form_in L r.number r.row.value)
