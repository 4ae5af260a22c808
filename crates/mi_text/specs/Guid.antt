-- Codes in braces.
use Rattle.std.specs.Prelude.{ℕ, List, Option, option_map}
use Rattle.std.specs.Int.{w128, from_be_bytes, to_be_bytes}
use Rattle.uuid.specs.Text.{parsed_braced, braced_text, upper}

-- 38 characters in braces, digits of either case: the number that the sixteen bytes spell
abbrev pub guid_of : List ℕ → Option ℕ
guid_of text = option_map (from_be_bytes w128) (parsed_braced text)

-- in braces and upper case
abbrev pub guid_text : ℕ → List ℕ
guid_text number = braced_text upper (to_be_bytes w128 number)
