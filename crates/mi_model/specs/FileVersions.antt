-- Which coming rows of File are written. (File Table; MsiFileHash Table; File Versioning Rules; REINSTALLMODE Property; Companion Files.)
use Rattle.std.specs.Prelude.{ℕ, zero, suc, ◌==◌, ◌||◌, Bool, true, false, if◌then◌else◌, List, [], ◌∷◌, map, length, codes, Option, Some, None, option_map, option_and_then, unwrap_or, is_some, is_none}
use Rattle.std.specs.List.{list_any, flat_map, filter_map, slice_split}
use Rattle.std.specs.Option.{option_map_or}
use Rattle.std.specs.Int.{w32, to_le_bytes}
use Rattle.std.specs.Ordering.{nat_cmp}
use Rattle.std.specs.FinMap.{keys, from_entries}
use Rattle.std.specs.Str.{bytes_eq}
use Rattle.md5.specs.Md5.{md5}
use Rattle.mi_text.specs.Maps.{Name}
use Rattle.mi_text.specs.Version.{version_of}
use Rattle.mi_text.specs.declared.version.Version.{Version}
use Rattle.mi_base.specs.declared.entry.FileEntry.{FileEntry}
use Rattle.mi_base.specs.Machine.{file_at}
use Rattle.mi_base.specs.Spelling.{head_of}
use Rattle.mi_fver.specs.declared.mode.Mode.{Mode}
use Rattle.mi_fver.specs.declared.new_file.NewFile.{NewFile}
use Rattle.mi_fver.specs.Letters.{letters_in}
use Rattle.mi_fver.specs.Rules.{replaces_of}
use Rattle.mi_idt.specs.Fields.{number_within}
use Rattle.mi_rows.specs.Values.{bits_of}
use Rattle.mi_schema.specs.Checks.{companion_of}
use Rattle.mi_schema.specs.declared.typed_rows.FileRow.{FileRow}
use Rattle.mi_schema.specs.declared.typed_rows.MsiFileHashRow.{MsiFileHashRow}
use Rattle.mi_model.specs.World.{World, Selection}
use Rattle.mi_schema.specs.TableRows.{row_of, component_row_of, file_row_of, table_value}
use Rattle.mi_model.specs.States.{is_present}
use Rattle.mi_model.specs.Asked.{comes}
use Rattle.mi_model.specs.ComponentRows.{choice_of}
use Rattle.mi_model.specs.FilePaths.{path_of_row}

-- ---- what a row says of its file

-- a companion has no version of its own
abbrev pub version_of_row : FileRow → Option Version
version_of_row r = option_and_then version_of r.version

-- numbers, each once, in order
abbrev pub rising : List ℕ → List ℕ
rising ns = keys (from_entries {R = nat_cmp} (map (λ n. (n, tt {0})) ns))

abbrev pub languages_of_row : FileRow → List ℕ
languages_of_row r = rising (filter_map (number_within 65535) (slice_split (λ b. b == 44) (unwrap_or r.language [])))

abbrev pub new_file : FileRow → NewFile
new_file r = record { version = version_of_row r; languages = languages_of_row r }

-- the language that the package states, whatever the property was set to (ProductLanguage property)
abbrev pub product_language : World → ℕ
product_language w = unwrap_or (number_within 65535 (table_value w.given.rows (codes "ProductLanguage"))) 0

-- ---- the mode

abbrev pub chosen_mode : World → Mode
chosen_mode w = option_map_or (λ (s : Selection). s.mode) (choice_of w) (letters_in [])

abbrev pub writes_some : Mode → Bool
writes_some mode = mode.p || mode.o || mode.e || mode.d || mode.a

abbrev pub component_is_present : World → Name → Bool
component_is_present w c = option_map_or (is_present w.given) (component_row_of w.given.rows c) false

-- a component that isn't present is installed under `o` at least
abbrev pub mode_of_row : World → FileRow → Mode
mode_of_row w r = let mode = chosen_mode w in if component_is_present w r.component || writes_some mode then mode else record mode { o = true }

-- ---- what is there

-- the file at the path of a row, on the machine as it stands before the phase
abbrev pub file_there : World → FileRow → Option FileEntry
file_there w r = option_and_then (file_at w.machine) (path_of_row w r)

-- the four parts, each with its low byte first
abbrev pub hash_bytes : MsiFileHashRow → List ℕ
hash_bytes h = flat_map (λ part. to_le_bytes w32 (bits_of part)) (h.hash_part1 ∷ h.hash_part2 ∷ h.hash_part3 ∷ h.hash_part4 ∷ [])

abbrev pub stated_hash : World → FileRow → Option (List ℕ)
stated_hash w r = option_map hash_bytes (row_of (λ (h : MsiFileHashRow). h.file) w.given.rows.msi_file_hash r.file)

-- the hash that is stated is that of the bytes that are there
unfoldable pub has_same_hash : World → FileRow → FileEntry → Bool
has_same_hash w r f = option_map_or (bytes_eq (md5 f.bytes)) (stated_hash w r) false

-- ---- the decision

-- a row by itself: a companion where nothing is there, any other by the rules on versions
abbrev pub is_called_for : World → FileRow → Bool
is_called_for w r =
    if is_some (companion_of r.version) then is_none (file_there w r)
    else replaces_of (mode_of_row w r) (option_map head_of (file_there w r)) (new_file r) (product_language w) (option_map_or (has_same_hash w r) (file_there w r) false)

-- the file whose companion a row is, where that comes too
abbrev pub leader_of : World → FileRow → Option FileRow
leader_of w r = option_and_then (λ (f : FileRow). if comes w f.component then Some f else None) (option_and_then (file_row_of w.given.rows) (companion_of r.version))

-- a row, the one whose companion it is, and so on while they come; the number bounds the chain
abbrev pub led_by : World → ℕ → FileRow → List FileRow
led_by w zero r = []
led_by w (suc n) r = r ∷ option_map_or (λ leader. led_by w n leader) (leader_of w r) []

-- a coming row is written where it is called for, or one that it follows is; no chain has more rows than the table
unfoldable pub is_written : World → FileRow → Bool
is_written w r = list_any (is_called_for w) (led_by w (suc (length w.given.rows.file)) r)
