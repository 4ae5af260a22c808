-- The outcome of a run, over what is handed in. (Installation; Rollback Installation. The order of refusals is this project's own: words,
-- settling, image, and what stands in PackageOutcome.)
use Rattle.std.specs.Prelude.{◌≡◌, ℕ, ◌-◌, false, List, codes, Option, option_map, Result, Ok, Err}
use Rattle.mi_text.specs.Maps.{Name}
use Rattle.mi_text.specs.declared.answers.Settled.{Settled}
use Rattle.mi_volume.specs.Maps.{Map, size}
use Rattle.mi_source.specs.Paths.{Files}
use Rattle.mi_undo.specs.Stands.{stands, settled}
use Rattle.mi_base.specs.Machine.{Machine, machine_of, volume_of}
use Rattle.mi_model.specs.Listings.{products_text_of, clients_text_of}
use Rattle.mi_model.specs.Texts.{Text}
use Rattle.mi_base.specs.declared.answers.Cause.TheVariants.{BadWords, BadRollback, RecoveryFull, BadImage}
use Rattle.mi_model.specs.Words.{Command, Package, Selftest, Clients, Products, Recover, command_of}
use Rattle.mi_model.specs.Selftest.{selftest_files}
use Rattle.mi_undo.specs.Short.{IsShort}
use Rattle.mi_model.specs.PackageOutcome.{End, Done, Listed, Recovered, Refused, Outcome, only, of_package}

-- What a run is handed.
pub record Handed : Type 0 where
  pub words : List Text
  -- the source's files
  pub files : Files
  -- what the volume holds
  pub held : Map
  -- its capacity, where it tells one
  pub capacity : Option ℕ
  -- the moment, in seconds
  pub now : ℕ

-- ---- the command, over the former machine, the free room and what settling found

abbrev pub of_command : Handed → Option ℕ → Machine → Settled → Command → Outcome
of_command h free m found (Package recorded folder words) = of_package h.files free h.now m recorded folder words
of_command h free m found (Selftest files words) = of_package (selftest_files files) free h.now m false (codes "self") words
of_command h free m found Clients = only (Listed (clients_text_of m))
of_command h free m found Products = only (Listed (products_text_of m))
of_command h free m found Recover = only (Recovered found)

abbrev pub free_room : Option ℕ → Map → Option ℕ
free_room capacity F = option_map (λ c. c - size F) capacity

abbrev pub of_machine : Handed → Map → Command → Result Machine Name → Outcome
of_machine h F command (Ok m) = of_command h (free_room h.capacity F) m (settled h.held) command
of_machine h F command (Err name) = only (Refused (BadImage name))

abbrev pub of_former : Handed → Command → Result Map Name → Outcome
of_former h command (Ok F) = of_machine h F command (machine_of F)
of_former h command (Err name) = only (Refused (BadRollback name))

abbrev pub of_words : Handed → Result Command ℕ → Outcome
of_words h (Ok command) = of_former h command (stands h.held)
of_words h (Err place) = only (Refused (BadWords place))

-- what a run comes to, where settling has room for the old bytes of the rollback area
unfoldable pub outcome : Handed → Outcome
outcome h = of_words h (command_of h.words)

-- settling has no room for the old bytes of this name
pub record IsWithoutRoom (h : Handed) (name : Name) : Type 0 where
  pub command : Command
  pub asked : command_of h.words ≡ Ok command
  pub short : IsShort h.capacity h.held name

-- What a run comes to: it is refused where settling has no room, and else this is the outcome.
pub record ComesTo (h : Handed) (o : Outcome) : Type 0 where
  pub short : (name : Name) → IsWithoutRoom h name → o ≡ only (Refused (RecoveryFull name))
  pub room : ((name : Name) → ¬ IsWithoutRoom h name) → o ≡ outcome h

-- the map that an outcome makes of the former one
abbrev pub map_of_end : Map → End → Map
map_of_end F (Done m) = volume_of m
map_of_end F other = F

abbrev pub map_after : Map → Outcome → Map
map_after F o = map_of_end F o.end
