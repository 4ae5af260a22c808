-- Rows by their seats, as the program sorts them.
use Rattle.std.specs.Prelude.{◌≡◌, ℕ, ℤ, List, map, filter, drop, Option, Some, slice_get}
use denote.Ref.{Bor}
use Rattle.std.specs.declared.cmp.Ordering.{Ordering}
use Rattle.std.specs.FinMap.{entries}
use Rattle.mi_schema.specs.declared.typed_rows.InstallExecuteSequenceRow.{InstallExecuteSequenceRow}
use Rattle.mi_model.specs.Sequence.{Seat, seat_cmp, by_seat, has_seat}

-- a seat of the program, and a place
abbrev pub Placed : Type 0
Placed = (ℤ × Bor (List ℕ)) × ℕ

-- seats in their order
abbrev pub placed_cmp : ℤ × Bor (List ℕ) → ℤ × Bor (List ℕ) → Ordering
placed_cmp a b = seat_cmp (a.0, a.1.now) (b.0, b.1.now)

-- its seat, and the row at that place
abbrev pub seated : List InstallExecuteSequenceRow → Placed → Seat × Option InstallExecuteSequenceRow
seated rows e = ((e.0.0, e.0.1.now), slice_get rows e.1)

abbrev pub as_there : Seat × InstallExecuteSequenceRow → Seat × Option InstallExecuteSequenceRow
as_there e = (e.0, Some e.1)

-- these are the rows from this place on that have a seat
abbrev pub AreSeated : List InstallExecuteSequenceRow → ℕ → List Placed → Type 0
AreSeated rows place placed = map (seated rows) placed ≡ map as_there (entries (by_seat (filter has_seat (drop place rows))))
