-- Which rows WriteRegistryValues writes, by what an action sees. (WriteRegistryValues Action; REINSTALLMODE Property, letters m and u.)
use Rattle.std.specs.Prelude.{ℤ, ◌||◌, ◌&&◌, not, Bool, if◌then◌else◌}
use Rattle.mi_text.specs.Lookups.{Lookups}
use Rattle.mi_fver.specs.declared.mode.Mode.{Mode}
use Rattle.mi_schema.specs.declared.typed_rows.RegistryRow.{RegistryRow}
use Rattle.mi_model.specs.RegistryRows.{root_of}
use Rattle.mi_model.specs.WriteRegistryValues.{is_of_user}
use Rattle.mi_records.specs.Choices.{Choices}

-- the letter of the root asks for it
abbrev pub is_asked : Lookups → Mode → ℤ → Bool
is_asked L mode root = if is_of_user (root_of L root) then mode.u else mode.m

-- the component comes, and was absent or is asked for anew
abbrev pub is_taken : Lookups → Choices → RegistryRow → Bool
is_taken L c r = c.coming r.component && (not (c.present r.component) || is_asked L c.mode r.root)
