-- When the rules on versions look at the hash, and what is known of the world in which rows are judged. (File Versioning Rules.)
use Rattle.std.specs.Prelude.{◌≡◌, ℕ, nat_le, ◌&&◌, ◌||◌, not, Bool, true, false, List, Some, None, option_map, is_none}
use Rattle.std.specs.Option.{option_map_or}
use Rattle.mi_text.specs.Lookups.{Lookups}
use Rattle.mi_text.specs.Maps.{Map}
use Rattle.mi_base.specs.declared.entry.FileHead.{FileHead}
use Rattle.mi_base.specs.Spelling.{head_of}
use Rattle.mi_fver.specs.Rules.{replaces_of}
use Rattle.mi_fver.specs.declared.mode.Mode.{Mode}
use Rattle.mi_fver.specs.declared.new_file.NewFile.{NewFile}
use Rattle.mi_image.specs.Items.{Items, machine_over, AreThere}
use Rattle.mi_schema.specs.declared.package.Package.{Package}
use Rattle.mi_schema.specs.RowsOf.{rows_in}
use Rattle.mi_schema.specs.TableRows.{row_of}
use Rattle.mi_schema.specs.declared.typed_rows.MsiFileHashRow.{MsiFileHashRow}
use Rattle.mi_schema.specs.declared.typed_rows.FileRow.{FileRow}
use Rattle.mi_model.specs.World.{World}
use Rattle.mi_model.specs.FileVersions.{mode_of_row, file_there, has_same_hash}
use Rattle.mi_records.specs.Choices.{Choices, IsAsked}

-- neither file has a version, the old one wasn't changed, and the letters leave it to the hash
abbrev pub looks_at_hash : Mode → FileHead → NewFile → Bool
looks_at_hash mode old new = not mode.a && not mode.e && (mode.o || mode.d) && is_none old.version && is_none new.version && nat_le old.modified old.created

-- the rules on versions say the same of a file that is there, whatever its hash is
abbrev pub IgnoresHash : Mode → FileHead → NewFile → Type 0
IgnoresHash mode old new = (product : ℕ) → replaces_of mode (Some old) new product true ≡ replaces_of mode (Some old) new product false

-- the package states no hash of the file of this key
abbrev pub StatesNoHash : Package → List ℕ → Type 0
StatesNoHash p file = row_of (λ (h : MsiFileHashRow). h.file) (rows_in p).msi_file_hash file ≡ None

-- the rules on versions let a row's file be written, which is this new one
abbrev pub replaced_by : World → FileRow → NewFile → ℕ → Bool
replaced_by w r new product = replaces_of (mode_of_row w r) (option_map head_of (file_there w r)) new product (option_map_or (has_same_hash w r) (file_there w r) false)

-- an action that sees this world asks so, and the world's machine is the image's
pub record IsSeenOver (L : Lookups) (c : Choices) (p : Package) (held files : Map (List ℕ)) (image : Items) (w : World) : Type 0 where
  pub asked : IsAsked L c p w
  pub machine : w.machine ≡ machine_over held files image
  pub there : AreThere held files image
