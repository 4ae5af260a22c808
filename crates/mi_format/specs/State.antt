-- What is made of tokens in one scan: a text, and a word on what the brackets directly in it name.
use Rattle.std.specs.Prelude.{ℕ, if◌then◌else◌, List, [], ◌∷◌, ◌++◌, Option, Some, None, codes}
use Rattle.std.specs.Str.{bytes_eq}
use Rattle.mi_text.specs.Lookups.{Lookups}
use Rattle.mi_format.specs.declared.token.Kind.{Kind}
use Rattle.mi_format.specs.declared.token.Kind.TheVariants.{Bracket, Brace}
use Rattle.mi_format.specs.declared.part.Brackets.{Brackets}
use Rattle.mi_format.specs.declared.part.Brackets.TheVariants.{Unnamed, Full, Empty}
use Rattle.mi_format.specs.Tokens.{shown}
use Rattle.mi_format.specs.Value.{named, is_nothing}
use Rattle.mi_format.specs.Scan.{Maker}

pub record Part : Type 0 where
  pub text : List ℕ
  pub brackets : Brackets

abbrev pub both : Brackets → Brackets → Brackets
both Unnamed b = b
both Empty b = Empty
both Full Unnamed = Full
both Full Full = Full
both Full Empty = Empty

-- one bracket that names a value
abbrev pub of_value : List ℕ → Brackets
of_value v = if is_nothing v then Empty else Full

abbrev pub part_bracket : List ℕ → Option (List ℕ) → Part
part_bracket x None = record { text = 91 ∷ x ++ 93 ∷ []; brackets = Unnamed }
part_bracket x (Some v) = record { text = v; brackets = if bytes_eq x (codes "~") then Unnamed else of_value v }

abbrev pub part_brace : List ℕ → Brackets → List ℕ
part_brace x Unnamed = 123 ∷ x ++ 125 ∷ []
part_brace x Empty = []
part_brace x Full = x

abbrev pub part_group : Lookups → Kind → Part → Part
part_group L Bracket p = part_bracket p.text (named L p.text)
part_group L Brace p = record { text = part_brace p.text p.brackets; brackets = Unnamed }

abbrev pub plain : List ℕ → Part
plain text = record { text = text; brackets = Unnamed }

abbrev pub part_beside : Part → Part → Part
part_beside p q = record { text = p.text ++ q.text; brackets = both p.brackets q.brackets }

abbrev pub parts : Lookups → Maker Part
parts L = record { nothing = plain []; single = λ t. plain (shown t); group = part_group L; beside = part_beside }
