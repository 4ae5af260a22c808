-- Escapes: `[\`, one character, any number of characters that are no marks, and `]` (Formatted).
use Rattle.std.specs.Prelude.{ℕ, ◌==◌, ◌||◌, Bool, if◌then◌else◌, List, [], ◌∷◌, Option, Some, None, option_map}

-- one of `[ ] { }`
abbrev pub is_mark : ℕ → Bool
is_mark c = (c == 91) || (c == 93) || (c == 123) || (c == 125)

-- what follows the first mark, where that is `]`
abbrev pub behind_close : List ℕ → Option (List ℕ)
behind_close [] = None
behind_close (c ∷ cs) = if c == 93 then Some cs else if is_mark c then None else behind_close cs

-- where the text behind a `[` makes it an escape: the character that the escape is, and what follows the escape
abbrev pub escape_of : List ℕ → Option (ℕ × List ℕ)
escape_of [] = None
escape_of (b ∷ []) = None
escape_of (b ∷ c ∷ cs) = if b == 92 then option_map (λ rest. (c, rest)) (behind_close cs) else None
