-- The expansion of formatted text (Formatted).
use Rattle.std.specs.Prelude.{◌≡◌, ℕ, nat_le, ◌<◌, Bool, if◌then◌else◌, List, ◌++◌, length, Result, Ok, Err}
use Rattle.mi_text.specs.Lookups.{Lookups}
use Rattle.mi_format.specs.declared.token.Token.{Token}
use Rattle.mi_format.specs.declared.error.FormatFault.{FormatFault}
use Rattle.mi_format.specs.declared.error.FormatFault.TheVariants.{TooDeep}
use Rattle.mi_format.specs.declared.error.LimitFault.{LimitFault}
use Rattle.mi_format.specs.declared.error.LimitFault.TheVariants as limited
use Rattle.mi_format.specs.Tokens.{tokens}
use Rattle.mi_format.specs.Groups.{Pieces, tokens_in, IsWhole, whole, unended, too_deep}
use Rattle.mi_format.specs.Value.{meaning}

-- the expansion is the value of the whole groups that the text is
pub record IsExpansion (L : Lookups) (text expansion : List ℕ) : Type 0 where
  pub pieces : Pieces
  pub is_whole : IsWhole pieces
  pub is_text : tokens_in pieces ≡ tokens text
  pub is : expansion ≡ (meaning L pieces).text

-- some prefix of the text's tokens, read as whole groups, has more than 64 open marks that no group begins at
pub record IsTooDeep (text : List ℕ) : Type 0 where
  pub pieces : Pieces
  pub rest : List Token
  pub is_whole : IsWhole pieces
  pub is_prefix : tokens_in pieces ++ rest ≡ tokens text
  pub is_deep : 64 < unended pieces

-- the one expansion
unfoldable pub expand_of : Lookups → List ℕ → List ℕ
expand_of L text = (meaning L (whole (tokens text))).text

-- the test for `IsTooDeep`
unfoldable pub is_too_deep : List ℕ → Bool
is_too_deep text = too_deep (tokens text)

-- the expansion of a text, or what is wrong with it
unfoldable pub expanded : Lookups → List ℕ → Result (List ℕ) FormatFault
expanded L text = if is_too_deep text then Err TooDeep else Ok (expand_of L text)

-- the same within a limit: what is wrong with the text comes first, then an expansion of more bytes than the limit
abbrev pub within : ℕ → Result (List ℕ) FormatFault → Result (List ℕ) LimitFault
within limit (Err TooDeep) = Err limited.TooDeep
within limit (Ok value) = if nat_le (length value) limit then Ok value else Err limited.TooLong

unfoldable pub expanded_within : ℕ → Lookups → List ℕ → Result (List ℕ) LimitFault
expanded_within limit L text = within limit (expanded L text)
