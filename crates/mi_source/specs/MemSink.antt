-- A sink in memory.
use Rattle.std.specs.Prelude.{ℕ, ◌+◌, Bool, ◌||◌, List, length, nat_lt}
use Rattle.mi_source.specs.Memory.{fails_now}
use Rattle.mi_source.specs.declared.meter.Meter.{Meter}
use Rattle.mi_source.specs.declared.mem_sink.MemSink.{MemSink}

-- the bytes that were written
abbrev pub bytes_of : MemSink → List ℕ
bytes_of s = s.bytes.items

-- how many bytes it takes in all
abbrev pub room_of : MemSink → ℕ
room_of s = s.room

-- which calls fail, the number of the next call, and how many have failed
abbrev pub meter_of : MemSink → Meter
meter_of s = s.meter

-- how many calls have failed
abbrev pub faults_of : MemSink → ℕ
faults_of s = s.meter.faults

-- whether a write of so many bytes fails: its number is listed, or the room would be passed
abbrev pub refuses : MemSink → ℕ → Bool
refuses s n = fails_now s.meter || nat_lt s.room (length s.bytes.items + n)
