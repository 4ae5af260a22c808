-- The value of pieces (Formatted).
use Rattle.std.specs.Prelude.{ℕ, ◌==◌, ◌||◌, Bool, if◌then◌else◌, List, [], ◌∷◌, ◌++◌, length, Option, Some, None, codes}
use Rattle.std.specs.List.{list_any}
use Rattle.std.specs.Str.{bytes_eq}
use Rattle.mi_text.specs.Lookups.{Lookups}
use Rattle.mi_text.specs.PropertyNames.{is_property_name}
use Rattle.mi_format.specs.declared.token.Kind.{Kind}
use Rattle.mi_format.specs.declared.token.Kind.TheVariants.{Bracket, Brace}
use Rattle.mi_format.specs.Tokens.{shown}
use Rattle.mi_format.specs.Groups.{Pieces, End, Single, Group}

abbrev pub property_named : Lookups → List ℕ → Option (List ℕ)
property_named L x = if is_property_name x then Some (L.property x) else None

-- what the expanded inside of a bracket names: `~` a byte 0, `%` and a name a variable, `#` or `!` and a key a file's path,
-- `$` and a key a component's folder, a property name its value; anything else names nothing
abbrev pub named : Lookups → List ℕ → Option (List ℕ)
named L [] = None
named L (b ∷ []) = if b == 126 then Some (0 ∷ []) else property_named L (b ∷ [])
named L (b ∷ c ∷ cs) =
    if b == 37 then Some (L.variable (c ∷ cs))
    else if (b == 35) || (b == 33) then Some (L.file (c ∷ cs))
    else if b == 36 then Some (L.folder (c ∷ cs))
    else property_named L (b ∷ c ∷ cs)

-- an expanded text, and the values that the brackets directly in it name, those of `[~]` aside
pub record Meaning : Type 0 where
  pub text : List ℕ
  pub values : List (List ℕ)

-- where a bracket names something that stands in its place, else it stays with its brackets
abbrev pub bracket : List ℕ → Option (List ℕ) → Meaning
bracket x None = record { text = 91 ∷ x ++ 93 ∷ []; values = [] }
bracket x (Some v) = record { text = v; values = if bytes_eq x (codes "~") then [] else v ∷ [] }

abbrev pub is_nothing : List ℕ → Bool
is_nothing v = length v == 0

-- where no bracket directly in a brace names something, it stays with its braces; where one is empty it vanishes; else it loses its braces
abbrev pub brace : List ℕ → List (List ℕ) → List ℕ
brace x [] = 123 ∷ x ++ 125 ∷ []
brace x (v ∷ vs) = if list_any is_nothing (v ∷ vs) then [] else x

abbrev pub group : Lookups → Kind → Meaning → Meaning
group L Bracket m = bracket m.text (named L m.text)
group L Brace m = record { text = brace m.text m.values; values = [] }

abbrev pub beside : Meaning → Meaning → Meaning
beside m n = record { text = m.text ++ n.text; values = m.values ++ n.values }

abbrev pub meaning : Lookups → Pieces → Meaning
meaning L End = record { text = []; values = [] }
meaning L (Single t rest) = beside (record { text = shown t; values = [] }) (meaning L rest)
meaning L (Group k inside rest) = beside (group L k (meaning L inside)) (meaning L rest)
