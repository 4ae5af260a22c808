-- A text as whole groups: an open mark, an inside, and the close of its kind.
use Rattle.std.specs.Prelude.{◌≡◌, ℕ, zero, suc, nat_lt, Bool, false, if◌then◌else◌, List, [], ◌∷◌, ◌++◌, length, map, Option, Some, None, option_and_then, option_map}
use Rattle.std.specs.List.{list_any}
use Rattle.mi_format.specs.declared.token.Kind.{Kind}
use Rattle.mi_format.specs.declared.token.Token.{Token}
use Rattle.mi_format.specs.declared.token.Token.TheVariants.{Open, Close}
use Rattle.mi_format.specs.Tokens.{opened, closes}

pub data Pieces : Type 0 where
  End : Pieces
  Single : (token : Token) → (rest : Pieces) → Pieces
  Group : (kind : Kind) → (inside rest : Pieces) → Pieces

-- the tokens of pieces
abbrev pub tokens_in : Pieces → List Token
tokens_in End = []
tokens_in (Single t rest) = t ∷ tokens_in rest
tokens_in (Group k inside rest) = Open k ∷ tokens_in inside ++ Close k ∷ tokens_in rest

-- an inside of a group of this kind: groups and other tokens, with no open mark among these and no close of the group's own kind
abbrev pub IsInside : Kind → Pieces → Type 0
IsInside k End = Unit {0}
IsInside k (Single t rest) = (opened t ≡ None) × (closes k t ≡ false) × IsInside k rest
IsInside k (Group j inside rest) = IsInside j inside × IsInside k rest

-- an inside of this kind and its close
pub record Completes (k : Kind) (tokens : List Token) : Type 0 where
  pub inside : Pieces
  pub after : List Token
  pub is_inside : IsInside k inside
  pub is : tokens ≡ tokens_in inside ++ Close k ∷ after

-- the pieces of a whole text: an open mark stands alone only where no group begins at it
abbrev pub IsWhole : Pieces → Type 0
IsWhole End = Unit {0}
IsWhole (Single t rest) = ((k : Kind) → opened t ≡ Some k → Completes k (tokens_in rest) → ⊥) × IsWhole rest
IsWhole (Group k inside rest) = IsInside k inside × IsWhole rest

-- The same as a function: the inside of a group whose mark stands just before the tokens, and what follows the group.
-- The number bounds the tokens that are read; their length is enough.
abbrev pub Read : Type 0
Read = Option (Pieces × List Token)

-- a choice between an open mark and any other token
abbrev pub marked : {A : Type 0} → Option Kind → A → (Kind → A) → A
marked None other mark = other
marked (Some k) other mark = mark k

abbrev pub with_single : Token → Read → Read
with_single t r = option_map (λ x. (Single t x.0, x.1)) r

abbrev pub with_group : Kind → Pieces → Read → Read
with_group k inside r = option_map (λ x. (Group k inside x.0, x.1)) r

abbrev pub inside_of : ℕ → Kind → List Token → Read
inside_of zero k ts = None
inside_of (suc n) k [] = None
inside_of (suc n) k (t ∷ ts) =
    if closes k t then Some (End, ts)
    else marked (opened t) (with_single t (inside_of n k ts)) (λ j. option_and_then (λ g. with_group j g.0 (inside_of n k g.1)) (inside_of n j ts))

abbrev pub group_or_mark : Kind → Token → Read → Pieces → (List Token → Pieces) → Pieces
group_or_mark k t None alone rest = Single t alone
group_or_mark k t (Some g) alone rest = Group k g.0 (rest g.1)

abbrev pub whole_in : ℕ → List Token → Pieces
whole_in zero ts = End
whole_in (suc n) [] = End
whole_in (suc n) (t ∷ ts) = marked (opened t) (Single t (whole_in n ts)) (λ k. group_or_mark k t (inside_of n k ts) (whole_in n ts) (λ rest. whole_in n rest))

-- the pieces of a whole text
unfoldable pub whole : List Token → Pieces
whole ts = whole_in (length ts) ts

-- how many open marks stand alone: those whose groups don't end in the text
abbrev pub unended : Pieces → ℕ
unended End = 0
unended (Single t rest) = marked (opened t) (unended rest) (λ k. suc (unended rest))
unended (Group k inside rest) = unended rest

abbrev pub prefixes : {A : Type 0} → List A → List (List A)
prefixes [] = [] ∷ []
prefixes {A} (x ∷ xs) = [] ∷ map (λ (p : List A). x ∷ p) (prefixes xs)

-- some prefix has more than 64 open marks whose groups don't end in it
unfoldable pub too_deep : List Token → Bool
too_deep ts = list_any (λ p. nat_lt 64 (unended (whole p))) (prefixes ts)
