-- What becomes of the count of a component's file, and what guards it. (Component Table, Attributes,
-- msidbComponentAttributesSharedDllRefCount. The rules of the counts are this project's own.)
use Rattle.std.specs.Prelude.{◌++◌, ◌&&◌, ◌||◌, Bool, false, if◌then◌else◌, List, [], ◌∷◌, Option, Some, None, Result, Ok}
use Rattle.std.specs.List.{list_any}
use Rattle.std.specs.Result.{result_ok}
use Rattle.std.specs.Option.{option_map_or}
use Rattle.mi_text.specs.Maps.{Name, same_name}
use Rattle.mi_base.specs.declared.entry.Entry.{Entry}
use Rattle.mi_base.specs.declared.answers.Fault.{Fault}
use Rattle.mi_schema.specs.declared.typed_rows.ComponentRow.{ComponentRow}
use Rattle.mi_changes.specs.Touches.{Touch, Set}
use Rattle.mi_model.specs.Texts.{Text}
use Rattle.mi_model.specs.World.{World, Action, MakeLocal, MakeAbsent}
use Rattle.mi_model.specs.Asked.{keeps, leaves}
use Rattle.mi_model.specs.States.{is_present}
use Rattle.mi_model.specs.Refusals.{◌>>=◌}
use Rattle.mi_model.specs.Parents.{key_with_parents}
use Rattle.mi_model.specs.ClientRows.{recorded_path}
use Rattle.mi_model.specs.RegistryGuards.{is_guarded_value}
use Rattle.mi_model.specs.SharedCounts.{shared_key, count_name, raised, lowered, is_counted}

-- ---- guards: a count row is a row of its component, as one of Registry is

-- the path whose count a component has
abbrev pub counted_path : World → ComponentRow → Option Text
counted_path w c = if is_counted w.given.rows c then result_ok (recorded_path w c) else None

abbrev pub guards_count : World → Name → ComponentRow → Bool
guards_count w name c = keeps w c.component && option_map_or (λ path. same_name name (count_name path)) (counted_path w c) false

-- a kept component has its count here
unfoldable pub is_guarded_count : World → Name → Bool
is_guarded_count w name = list_any (guards_count w name) w.given.rows.component

-- a row of Registry, or a count, of a kept component names this value
unfoldable pub is_guarded : World → Name → Bool
is_guarded w name = is_guarded_value w name || is_guarded_count w name

-- ---- what becomes of a count

abbrev pub takes_count : World → Text → List (Touch Entry)
takes_count w path = if is_guarded w (count_name path) then [] else Set (count_name path) (λ old. None) ∷ []

-- A component that comes to the machine raises its count; one that others hold lowers it, and with one that leaves the count goes.
abbrev pub count_touches : World → ComponentRow → Text → Action → List (Touch Entry)
count_touches w c path MakeLocal = if is_present w.given c then [] else key_with_parents 2 shared_key ++ Set (count_name path) (raised path) ∷ []
count_touches w c path MakeAbsent = if leaves w c.component then takes_count w path else Set (count_name path) lowered ∷ []

abbrev pub counted_by : World → ComponentRow → Option Action → Result (List (Touch Entry)) Fault
counted_by w c None = Ok []
counted_by w c (Some action) = if is_counted w.given.rows c then (recorded_path w c >>= λ path. Ok (count_touches w c path action)) else Ok []
