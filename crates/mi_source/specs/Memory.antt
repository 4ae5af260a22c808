-- What the forms in memory mean.
use Rattle.std.specs.Prelude.{ℕ, ◌==◌, ◌+◌, ◌-◌, ◌^◌, Bool, List, map, min, String, if◌then◌else◌}
use Rattle.std.specs.List.{list_any}
use Rattle.std.specs.String.{string_bytes}
use Rattle.std.specs.declared.alloc.Global.{Global}
use Rattle.std.specs.FinMap.{from_entries}
use Rattle.mi_text.specs.Maps.{Name}
use Rattle.mi_source.specs.Paths.{Files}
use Rattle.mi_source.specs.declared.meter.Meter.{Meter}

-- the files that the entries of the program's map make
abbrev pub pair_of : String Global × List ℕ → Name × List ℕ
pair_of e = (string_bytes e.0, e.1)

abbrev pub files_of : List (String Global × List ℕ) → Files
files_of es = from_entries (map pair_of es)

-- whether the call of this number is among those that fail
abbrev pub is_listed : List ℕ → ℕ → Bool
is_listed fails number = list_any (λ n. n == number) fails

-- one more, or the last value of a counter of 64 bits
abbrev pub one_more : ℕ → ℕ
one_more n = min (n + 1) (2 ^ 64 - 1)

-- the number of the next call is among those that fail
abbrev pub fails_now : Meter → Bool
fails_now m = is_listed m.fails.items m.number

-- after a call: it is numbered, and counted where it failed
abbrev pub called : Bool → Meter → Meter
called failed m = record { fails = m.fails; number = one_more m.number; faults = (if failed then one_more m.faults else m.faults) }
