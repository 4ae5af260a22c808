-- Planned segments, one behind another. (This project's own.)
use Rattle.std.specs.Prelude.{◌≡◌, ℕ, List, [], Result, Ok, Err}
use Rattle.std.specs.List.{fold, All}
use Rattle.mi_volume.specs.Maps.{Map}
use Rattle.mi_source.specs.Paths.{Files}
use Rattle.mi_base.specs.declared.rec_error.RecFault.{RecFault}
use Rattle.mi_script.specs.declared.rec.Rec.{Rec}
use Rattle.mi_script.specs.Scripts.{after_script}
use Rattle.mi_script.specs.Reading.{script_of}
use Rattle.mi_model.specs.Plans.{Planned}

abbrev pub or_no_records : Result (List Rec) RecFault → List Rec
or_no_records (Ok records) = records
or_no_records (Err fault) = []

-- the records of a written script
abbrev pub records_in : List ℕ → List Rec
records_in bytes = or_no_records (script_of bytes)

-- the map after the segments, each over the map that those before it leave
abbrev pub after_segments : Files → Map → List Planned → Map
after_segments files d segments = fold (λ e (s : Planned). after_script files e s.records) d segments

-- no segment has a record
abbrev pub HaveNoRecord : List Planned → Type 0
HaveNoRecord segments = All (λ s. s.records ≡ []) segments
