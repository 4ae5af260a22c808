-- Which texts are values of their kind, or meet the rule of their column.
use Rattle.std.specs.Prelude.{ℕ, ◌==◌, ◌&&◌, not, nat_le, Bool, true, if◌then◌else◌, List, length, codes, Option, Some, None, is_some, Result, Ok, Err}
use Rattle.std.specs.List.{slice_split, list_all}
use Rattle.std.specs.Str.{bytes_eq}
use Rattle.mi_text.specs.Guid.{guid_of}
use Rattle.mi_text.specs.Version.{version_of}
use Rattle.mi_idt.specs.Fields.{is_digit, number_within}
use Rattle.mi_cond.specs.Tree.{Tree}
use Rattle.mi_cond.specs.declared.error.CondFault.{CondFault}
use Rattle.mi_cond.specs.declared.error.CondFault.TheVariants.{Syntax, TooDeep}
use Rattle.mi_cond.specs.Answer as answer

-- ---- numbers, languages and codes

-- decimal digits, of any number
abbrev pub is_decimal : List ℕ → Bool
is_decimal text = not (length text == 0) && list_all is_digit text

-- a decimal number up to 65535
abbrev pub is_language : List ℕ → Bool
is_language text = is_some (number_within 65535 text)

-- at most 65,535 of them, joined by `,` (Language)
abbrev pub are_languages : List ℕ → Bool
are_languages text = nat_le (length (slice_split (λ b. b == 44) text)) 65535 && list_all is_language (slice_split (λ b. b == 44) text)

abbrev pub is_zero_code : Option ℕ → Bool
is_zero_code None = true
is_zero_code (Some number) = number == 0

-- a code that isn't all zeros
abbrev pub is_product_code : List ℕ → Bool
is_product_code text = not (is_zero_code (guid_of text))

-- a value of a property that each product has (Property table; ProductCode, ProductVersion and ProductLanguage)
abbrev pub is_value_of : List ℕ → List ℕ → Bool
is_value_of name text =
    if bytes_eq name (codes "ProductCode") then is_product_code text
    else if bytes_eq name (codes "ProductVersion") then is_some (version_of text)
    else if bytes_eq name (codes "ProductLanguage") then is_language text
    else true

-- ---- conditions (Conditional Statement Syntax)

-- the place of a fault
abbrev pub place_in : CondFault → ℕ
place_in (Syntax place) = place
place_in (TooDeep place) = place

abbrev pub placed : Result Tree CondFault → Result Tree ℕ
placed (Ok tree) = Ok tree
placed (Err f) = Err (place_in f)

-- the condition of a text, or the place of its fault
unfoldable pub condition_of : List ℕ → Result Tree ℕ
condition_of text = placed (answer.condition_of text)
