-- Texts that no group and no escape begins in.
use Rattle.std.specs.Prelude.{ℕ, ◌==◌, ◌||◌, Bool, List}
use Rattle.std.specs.List.{list_any}

-- one of `[ {`
abbrev pub is_open_mark : ℕ → Bool
is_open_mark b = (b == 91) || (b == 123)

-- some byte of the text is one
abbrev pub has_open_mark : List ℕ → Bool
has_open_mark text = list_any is_open_mark text
