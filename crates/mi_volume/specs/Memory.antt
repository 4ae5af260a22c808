-- A volume in memory, and what each of its calls does exactly.
use Rattle.std.specs.Prelude.{◌≡◌, ℕ, ◌+◌, ◌-◌, ◌^◌, ◌<◌, ◌≤◌, ◌==◌, Bool, true, false, ◌||◌, List, [], ◌∷◌, ◌++◌, length, Option, None, Some, Result, Ok, Err, min, nat_le, option_map, unwrap_or, if◌then◌else◌}
use Rattle.std.specs.Option.{option_map_or}
use Rattle.std.specs.List.{list_any}
use Rattle.std.specs.FinMap.{get}
use Rattle.mi_text.specs.Maps.{Name}
use Rattle.mi_volume.specs.Maps.{size, slot_size, bytes_or_none, Fits}
use Rattle.mi_volume.specs.State.{State, MayLeave}
use Rattle.mi_volume.specs.Kept.{Kept, nothing_kept, is_dirty, changed, changed_if_held, cleaned, crashed, imaged, first_half}
use Rattle.mi_volume.specs.declared.call.Call.{Call}
use Rattle.mi_volume.specs.declared.call.CallKind.{CallKind}
use Rattle.mi_volume.specs.declared.call.CallKind.TheVariants.{Put, Append}
use Rattle.mi_volume.specs.declared.choice.Choice.{Choice}
use Rattle.mi_volume.specs.declared.choice.Choice.TheVariants.{Old}
use Rattle.mi_volume.specs.declared.volume.PutFault.{PutFault}
use Rattle.mi_volume.specs.declared.volume.PutFault.TheVariants.{NoMemory, Failed, Full}

pub record Memory : Type 0 where
  -- what is held, and of each dirty name what it held at the last good sync
  pub kept : Kept
  -- the greatest size, if there is one
  pub capacity : Option ℕ
  -- the numbers of the calls that fail
  pub listed : List ℕ
  -- from this number on all fail, if there is one
  pub from : Option ℕ
  -- the number of the next call
  pub number : ℕ
  -- how many calls have failed
  pub faults : ℕ
  -- the puts and appends that were made
  pub calls : List Call

-- what the room of a volume in memory says: where there is a capacity, the size that is used, which is within it, now and at the last good sync
pub record HasRoom (k : Kept) (capacity : Option ℕ) (used : ℕ) : Type 0 where
  pub small : (c : ℕ) → capacity ≡ Some c → c < 2 ^ 64 - 1
  pub exact : (c : ℕ) → capacity ≡ Some c → used ≡ size k.held
  pub held : Fits capacity (size k.held)
  pub before : Fits capacity (size (crashed Old k))

-- It keeps no history: what a crash may have left is what it may leave now.
abbrev pub state_of : Memory → State
state_of m = record {
  held = m.kept.held;
  dirty = λ q. is_dirty m.kept q ≡ true;
  capacity = m.capacity;
  faults = m.faults;
  moment = 0;
  left_since = λ t d. MayLeave m.kept.held (λ q. is_dirty m.kept q ≡ true) m.capacity d;
  only_now = λ d left. left;
}

-- an empty volume
abbrev pub opened : Option ℕ → List ℕ → Option ℕ → Memory
opened capacity listed from = record { kept = nothing_kept; capacity = capacity; listed = listed; from = from; number = 0; faults = 0; calls = [] }

-- the volume that is opened after a crash: nothing is dirty, and no call fails
abbrev pub reopened : Choice → Memory → Memory
reopened choice m = record { kept = imaged choice m.kept; capacity = m.capacity; listed = []; from = None; number = 0; faults = 0; calls = [] }

-- the next call fails: its number is in the list, or is at least `from`
abbrev pub fails_now : Memory → Bool
fails_now m = list_any (λ n. n == m.number) m.listed || option_map_or (λ n. nat_le n m.number) m.from false

-- one more; at the last value of a counter it stands still
abbrev pub counted : ℕ → ℕ
counted n = min (n + 1) (2 ^ 64 - 1)

-- after a call that keeps this and lists these, and that may have failed
abbrev pub called : Bool → Memory → Kept → List Call → Memory
called failed m kept calls = record m { kept = kept; number = counted m.number; faults = (if failed then counted m.faults else m.faults); calls = calls }

-- after a call that changes nothing
abbrev pub looked : Memory → Memory
looked m = called (fails_now m) m m.kept m.calls

-- a name that a failed call made dirty, if it is held
abbrev pub touched : Kept → Name → Kept
touched k name = changed_if_held k name (get k.held name)

abbrev pub marked : Name → ℕ → Memory → Memory
marked name byte m = called (fails_now m) m (if fails_now m then touched m.kept name else changed m.kept name (Some (byte ∷ []))) m.calls

-- A name that isn't held and wasn't held at the last good sync isn't made dirty.
abbrev pub removed : Name → Memory → Memory
removed name m = called (fails_now m) m (if fails_now m then touched m.kept name else changed_if_held m.kept name None) m.calls

abbrev pub synced : Memory → Memory
synced m = called (fails_now m) m (if fails_now m then m.kept else cleaned m.kept) m.calls

-- what the name holds once a piece is put or appended
abbrev pub with_piece : CallKind → Option (List ℕ) → List ℕ → List ℕ
with_piece Put now piece = piece
with_piece Append now piece = bytes_or_none now ++ piece

-- how many bytes it holds then, by how many it held
abbrev pub length_after : CallKind → Option ℕ → ℕ → ℕ
length_after Put now n = n
length_after Append now n = unwrap_or now 0 + n

-- the size then, where the name counts what it counts now
abbrev pub IsSizeWith : Memory → CallKind → Name → ℕ → ℕ → Type 0
IsSizeWith m kind name n after =
    after + slot_size name (get m.kept.held name) ≡ size m.kept.held + (length name + length_after kind (option_map length (get m.kept.held name)) n)

-- what a put or append of a piece keeps and lists
abbrev pub stored : CallKind → Name → List ℕ → Memory → Memory
stored kind name piece m = record m {
  kept = changed m.kept name (Some (with_piece kind (get m.kept.held name) piece));
  calls = m.calls ++ record { kind = kind; name = name } ∷ [];
}

-- after a put or append of a piece: one that failed has written its first half
abbrev pub written : {T : Type 0} → CallKind → Name → List ℕ → Memory → Result T PutFault → Memory
written kind name piece m (Ok x) = let s = stored kind name piece m in called false m s.kept s.calls
written kind name piece m (Err Failed) = let s = stored kind name (first_half piece) m in called true m s.kept s.calls
written kind name piece m (Err Full) = called false m m.kept m.calls
written kind name piece m (Err NoMemory) = called false m m.kept m.calls

-- Where there is a capacity, this is the size once so many bytes of the whole are put or appended, and the whole is within it.
pub record HasRoomFor (m : Memory) (kind : CallKind) (name : Name) (whole part after : ℕ) : Type 0 where
  pub exact : (c : ℕ) → m.capacity ≡ Some c → IsSizeWith m kind name part after
  pub within : (c : ℕ) → m.capacity ≡ Some c → (n : ℕ) → IsSizeWith m kind name whole n → n ≤ c

-- the whole passes the capacity
abbrev pub HasNoRoomFor : Memory → CallKind → Name → ℕ → Type 0
HasNoRoomFor m kind name whole = (c : ℕ) × (m.capacity ≡ Some c) × ((n : ℕ) → IsSizeWith m kind name whole n → c < n)
