-- The rows of the sequence, and where the walk over them stands. (InstallExecuteSequence Table. The order of equal sequence numbers is
-- this project's own.)
use Rattle.std.specs.Prelude.{[], ◌∷◌, Option, Some, None, if◌then◌else◌, ℤ, pos, int_lt, ◌&&◌, not, Bool, List, map, filter, codes, unwrap_or}
use Rattle.std.specs.declared.cmp.Ordering.{Ordering}
use Rattle.std.specs.Ordering.{int_cmp, ordering_then}
use Rattle.std.specs.FinMap.{FinMap, values, from_entries}
use Rattle.mi_text.specs.Maps.{Name, name_cmp, is_among}
use Rattle.mi_text.specs.Lookups.{Lookups}
use Rattle.mi_schema.specs.declared.typed_rows.InstallExecuteSequenceRow.{InstallExecuteSequenceRow}
use Rattle.mi_schema.specs.TableRows.{Rows}
use Rattle.mi_model.specs.Conditions.{holds}

-- ---- the rows

-- a row's place: its Sequence, then its Action
abbrev pub Seat : Type 0
Seat = ℤ × Name

abbrev pub seat_cmp : Seat → Seat → Ordering
seat_cmp a b = ordering_then (int_cmp a.0 b.0) (name_cmp a.1 b.1)

abbrev pub seat_of : InstallExecuteSequenceRow → Seat
seat_of r = (unwrap_or r.sequence (pos 0), r.action)

abbrev pub has_seat : InstallExecuteSequenceRow → Bool
has_seat r = int_lt (pos 0) (seat_of r).0

abbrev pub by_seat : List InstallExecuteSequenceRow → FinMap seat_cmp InstallExecuteSequenceRow
by_seat rows = from_entries (map (λ r. (seat_of r, r)) rows)

-- those whose Sequence is above 0, by it, then by Action
unfoldable pub sequence : Rows → List InstallExecuteSequenceRow
sequence rows = values (by_seat (filter has_seat rows.install_execute_sequence))

-- the first row that holds, which is begun, and the rows behind it
abbrev pub next_row : Lookups → List InstallExecuteSequenceRow → Option (InstallExecuteSequenceRow × List InstallExecuteSequenceRow)
next_row L [] = None
next_row L (r ∷ rows) = if holds L r.condition then Some (r, rows) else next_row L rows

-- ---- where the walk stands, by the actions that it has begun; none comes twice, since an action is the key of its row

abbrev pub is_costed : List Name → Bool
is_costed begun = is_among (codes "CostFinalize") begun

abbrev pub is_finalized : List Name → Bool
is_finalized begun = is_among (codes "InstallFinalize") begun

-- between InstallInitialize and InstallFinalize
abbrev pub is_inside : List Name → Bool
is_inside begun = is_among (codes "InstallInitialize") begun && not (is_finalized begun)
