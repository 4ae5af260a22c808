-- What a text holds, by what it is kept in.
use Rattle.std.specs.Prelude.{ℕ, ◌+◌, ◌≤◌, List, [], ⊤, string_bytes, slice_range}
use Rattle.std.specs.Str.{IsCharBoundary}
use Rattle.mi_text.specs.declared.text.Held.{Held}
use Rattle.mi_text.specs.declared.text.Held.TheVariants as held

-- The bytes: none, those of its own string, or those of a part of a string.
unfoldable pub bytes_held : Held → List ℕ
bytes_held held.Nowhere = []
bytes_held (held.Own string) = string_bytes string.value
bytes_held (held.Short length start whole) = slice_range (string_bytes whole.value) start (start + length)
bytes_held (held.Long part) = slice_range (string_bytes part.value.whole.value) part.value.start part.value.end

-- These are places between characters, in this order.
abbrev pub AreEnds : List ℕ → ℕ → ℕ → Type 0
AreEnds whole start end = (start ≤ end) × IsCharBoundary whole start × IsCharBoundary whole end

-- A part begins and ends between characters of its string.
unfoldable pub IsHeld : Held → Type 0
IsHeld held.Nowhere = ⊤
IsHeld (held.Own _) = ⊤
IsHeld (held.Short length start whole) = AreEnds (string_bytes whole.value) start (start + length)
IsHeld (held.Long part) = AreEnds (string_bytes part.value.whole.value) part.value.start part.value.end
