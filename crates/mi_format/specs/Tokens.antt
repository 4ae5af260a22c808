-- A text as characters, escapes and marks (Formatted).
use Rattle.std.specs.Prelude.{ℕ, zero, suc, ◌-◌, ◌==◌, Bool, true, false, if◌then◌else◌, List, [], ◌∷◌, length, Option, Some, None, encode_utf8}
use Rattle.std.specs.Str.{chars}
use Rattle.mi_format.specs.declared.token.Kind.{Kind}
use Rattle.mi_format.specs.declared.token.Kind.TheVariants.{Bracket, Brace}
use Rattle.mi_format.specs.declared.token.Token.{Token}
use Rattle.mi_format.specs.declared.token.Token.TheVariants.{Char, Escape, Open, Close}
use Rattle.mi_format.specs.Escape.{escape_of}

-- a character that is no `[`
abbrev pub token_of : ℕ → Token
token_of c = if c == 123 then Open Brace else if c == 93 then Close Bracket else if c == 125 then Close Brace else Char c

-- the token that a `[` begins, by the escape that it may be; `behind` gives the tokens behind so many characters
abbrev pub bracketed : Option (ℕ × List ℕ) → List ℕ → (ℕ → List Token) → List Token
bracketed None cs behind = Open Bracket ∷ behind 0
bracketed (Some e) cs behind = Escape e.0 ∷ behind (length cs - length e.1)

-- the tokens of characters, behind so many that belong to an escape
abbrev pub tokens_behind : ℕ → List ℕ → List Token
tokens_behind n [] = []
tokens_behind zero (c ∷ cs) = if c == 91 then bracketed (escape_of cs) cs (λ n. tokens_behind n cs) else token_of c ∷ tokens_behind 0 cs
tokens_behind (suc n) (c ∷ cs) = tokens_behind n cs

-- the tokens of a text, from its first character on
unfoldable pub tokens : List ℕ → List Token
tokens text = tokens_behind 0 (chars text)

abbrev pub open_of : Kind → ℕ
open_of Bracket = 91
open_of Brace = 123

abbrev pub close_of : Kind → ℕ
close_of Bracket = 93
close_of Brace = 125

-- the character that a token is where it is text
abbrev pub char_of : Token → ℕ
char_of (Char c) = c
char_of (Escape c) = c
char_of (Open k) = open_of k
char_of (Close k) = close_of k

abbrev pub shown : Token → List ℕ
shown t = encode_utf8 (char_of t)

-- which kind of group a token opens
abbrev pub opened : Token → Option Kind
opened (Open k) = Some k
opened (Char c) = None
opened (Escape c) = None
opened (Close k) = None

abbrev pub same_kind : Kind → Kind → Bool
same_kind Bracket Bracket = true
same_kind Brace Brace = true
same_kind j k = false

-- whether a token closes a group of this kind
abbrev pub closes : Kind → Token → Bool
closes k (Close j) = same_kind j k
closes k (Char c) = false
closes k (Escape c) = false
closes k (Open j) = false
