-- A source in memory.
use Rattle.std.specs.Prelude.{ℕ}
use Rattle.mi_source.specs.Paths.{Files}
use Rattle.mi_source.specs.Memory.{files_of}
use Rattle.mi_source.specs.declared.meter.Meter.{Meter}
use Rattle.mi_source.specs.declared.mem_source.MemSource.{MemSource}

-- the files that it holds
abbrev pub files_in : MemSource → Files
files_in s = files_of s.files.entries

-- which calls fail, the number of the next call, and how many have failed
abbrev pub meter_of : MemSource → Meter
meter_of s = s.meter

-- how many calls have failed
abbrev pub faults_of : MemSource → ℕ
faults_of s = s.meter.faults
