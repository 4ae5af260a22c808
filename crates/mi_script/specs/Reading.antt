-- Reading a written script from left to right, with the first fault that is met. (This project's own.)
use Rattle.std.specs.Prelude.{ℕ, ◌==◌, nat_lt, nat_le, ◌&&◌, not, Bool, true, if◌then◌else◌, List, [], ◌∷◌, length, take, drop, Option, Result, Ok, Err}
use Rattle.std.specs.Int.{w16, w32, w64}
use Rattle.std.specs.Str.{is_utf8}
use Rattle.mi_text.specs.Maps.{Name}
use Rattle.mi_text.specs.Path.{is_path}
use Rattle.mi_base.specs.declared.rec_error.RecFault.{RecFault}
use Rattle.mi_base.specs.declared.rec_error.RecFault.TheVariants.{Short, Field}
use Rattle.mi_base.specs.declared.entry.FileHead.{FileHead}
use Rattle.mi_base.specs.Reading.{◌>>=◌, number_at, items_at, version_at, ended}
use Rattle.mi_script.specs.declared.rec.Rec.{Rec}
use Rattle.mi_script.specs.declared.rec.Rec.TheVariants.{Put, Drop, Copy, Dup}

-- a length, and as many bytes
unfoldable pub long_at : List ℕ → Result (List ℕ × List ℕ) RecFault
long_at bytes = do
  n ← number_at w64 bytes
  if nat_lt (length n.1) n.0 then Err Short else Ok (take n.0 n.1, drop n.0 n.1)

unfoldable pub text_at : List ℕ → Result (List ℕ × List ℕ) RecFault
text_at bytes = do
  t ← long_at bytes
  if is_utf8 t.0 then Ok t else Err Field

-- a text of which this holds
unfoldable pub text_where : (List ℕ → Bool) → List ℕ → Result (List ℕ × List ℕ) RecFault
text_where holds bytes = do
  t ← text_at bytes
  if holds t.0 then Ok t else Err Field

-- 1 to 1,024 bytes
abbrev pub is_name : List ℕ → Bool
is_name text = not (length text == 0) && nat_le (length text) 1024

-- any item may stand behind any other
abbrev pub in_any_order : {X : Type 0} → Option X → X → Bool
in_any_order last item = true

unfoldable pub long_numbers_at : List ℕ → Result (List ℕ × List ℕ) RecFault
long_numbers_at bytes = number_at w64 bytes >>= λ n. items_at (number_at w16) in_any_order Option.None n.0 n.1

-- all of these bytes are a head
unfoldable pub head_in : List ℕ → Result FileHead RecFault
head_in bytes = do
  shown ← text_where is_path bytes
  version ← version_at shown.1
  languages ← long_numbers_at version.1
  created ← number_at w64 languages.1
  modified ← number_at w64 created.1
  attributes ← number_at w32 modified.1
  len ← number_at w64 attributes.1
  ended (record { shown = shown.0; version = version.0; languages = languages.0; created = created.0; modified = modified.0; attributes = attributes.0; length = len.0 }, len.1)

-- a length, and a head of as many bytes
unfoldable pub head_at : List ℕ → Result (FileHead × List ℕ) RecFault
head_at bytes = do
  part ← long_at bytes
  h ← head_in part.0
  Ok (h, part.1)

abbrev pub put_at : Name × List ℕ → Result (Rec × List ℕ) RecFault
put_at name = long_at name.1 >>= λ bytes. Ok (Put name.0 bytes.0, bytes.1)

-- what a Copy of this name and with this head has behind them
abbrev pub copy_behind : Name → FileHead → List ℕ → Result (Rec × List ℕ) RecFault
copy_behind name h bytes = do
  file ← text_at bytes
  path ← text_at file.1
  n ← number_at w64 path.1
  Ok (Copy name h file.0 path.0 n.0, n.1)

abbrev pub copy_at : Name × List ℕ → Result (Rec × List ℕ) RecFault
copy_at name = do
  h ← head_at name.1
  file ← text_at h.1
  path ← text_at file.1
  n ← number_at w64 path.1
  Ok (Copy name.0 h.0 file.0 path.0 n.0, n.1)

abbrev pub dup_at : Name × List ℕ → Result (Rec × List ℕ) RecFault
dup_at name = do
  h ← head_at name.1
  from ← text_where is_name h.1
  Ok (Dup name.0 h.0 from.0, from.1)

-- the record of this kind
abbrev pub kind_at : ℕ → List ℕ → Result (Rec × List ℕ) RecFault
kind_at kind bytes =
    if kind == 1 then (text_where is_name bytes >>= put_at)
    else if kind == 2 then (text_where is_name bytes >>= λ name. Ok (Drop name.0, name.1))
    else if kind == 3 then (text_where is_name bytes >>= copy_at)
    else if kind == 4 then (text_where is_name bytes >>= dup_at)
    else Err Field

unfoldable pub rec_at : List ℕ → Result (Rec × List ℕ) RecFault
rec_at [] = Err Short
rec_at (kind ∷ bytes) = kind_at kind bytes

-- the script that these bytes are, or the first fault
unfoldable pub script_of : List ℕ → Result (List Rec) RecFault
script_of bytes = do
  n ← number_at w64 bytes
  recs ← items_at rec_at in_any_order Option.None n.0 n.1
  ended recs
