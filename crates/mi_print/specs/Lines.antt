-- The line of each entry that isn't of the registry (this project's own). Fields are parted by tabs.
use Rattle.std.specs.Prelude.{ℕ, ◌/◌, ◌%◌, ◌==◌, if◌then◌else◌, List, [], ◌∷◌, ◌++◌, codes, Option, Some, None}
use Rattle.std.specs.List.{flat_map}
use Rattle.std.specs.Fmt.{decimal, signed_decimal}
use Rattle.md5.specs.Md5.{md5}
use Rattle.mi_text.specs.Guid.{guid_text}
use Rattle.mi_text.specs.declared.version.Version.{Version}
use Rattle.mi_base.specs.declared.entry.FileEntry.{FileEntry}
use Rattle.mi_base.specs.declared.entry.FileHead.{FileHead}
use Rattle.mi_base.specs.Spelling.{head_of}
use Rattle.mi_base.specs.declared.entry.Shortcut.{Shortcut}
use Rattle.mi_base.specs.declared.entry.Variable.{Variable}
use Rattle.mi_base.specs.declared.entry.Client.{Client}
use Rattle.mi_base.specs.declared.entry.Product.{Product}
use Rattle.mi_print.specs.Texts.{field, quoted, two_digits, version_text}

-- code, version, language, name
abbrev pub product_front : Product → List ℕ
product_front p = guid_text p.code.number ++ 9 ∷ version_text p.version ++ codes "\tlanguage " ++ decimal p.language ++ 9 ∷ field p.name

-- and features
unfoldable pub product_line : Product → List ℕ
product_line p = product_front p ++ codes "\tfeatures" ++ flat_map (λ f. 32 ∷ quoted f) p.features ++ 10 ∷ []

abbrev pub version_or_none : Option Version → List ℕ
version_or_none None = codes "-"
version_or_none (Some v) = version_text v

-- r, h and s where the file is read-only, hidden or the system's
unfoldable pub attributes_text : ℕ → List ℕ
attributes_text a = (if a % 2 == 1 then 114 else 45) ∷ (if a / 2 % 2 == 1 then 104 else 45) ∷ (if a / 4 % 2 == 1 then 115 else 45) ∷ []

-- size, version, languages
abbrev pub details_front : FileHead → List ℕ
details_front h = 9 ∷ decimal h.length ++ codes " bytes\tversion " ++ version_or_none h.version ++ codes "\tlanguages " ++ flat_map (λ l. decimal l ++ 32 ∷ []) h.languages

-- What stands behind the path of a file: that, attributes, both moments in seconds since 1970, and the MD5 of its bytes.
unfoldable pub head_details : FileHead → List ℕ → List ℕ
head_details h hash =
    details_front h ++ 9 ∷ attributes_text h.attributes ++ codes "\tcreated " ++ decimal h.created ++ codes "\tmodified " ++ decimal h.modified
    ++ codes "\tmd5 " ++ flat_map two_digits hash ++ 10 ∷ []

abbrev pub details : FileEntry → List ℕ
details f = head_details (head_of f) (md5 f.bytes)

unfoldable pub file_line : FileEntry → List ℕ
file_line f = field f.shown ++ details f

unfoldable pub folder_line : List ℕ → List ℕ
folder_line shown = field shown ++ 10 ∷ []

-- path, target, arguments, working folder
unfoldable pub shortcut_front : Shortcut → List ℕ
shortcut_front s = field s.shown ++ codes "\ttarget " ++ field s.target ++ codes "\targuments " ++ field s.arguments ++ codes "\tfolder " ++ field s.folder

-- description, icon
unfoldable pub shortcut_icon : Shortcut → List ℕ
shortcut_icon s = codes "\tdescription " ++ field s.description ++ codes "\ticon " ++ field s.icon ++ 9 ∷ signed_decimal s.icon_index

-- and key, show
unfoldable pub shortcut_line : Shortcut → List ℕ
shortcut_line s = shortcut_front s ++ shortcut_icon s ++ codes "\tkey " ++ decimal s.hotkey ++ codes "\tshow " ++ decimal s.show ++ 10 ∷ []

-- whose it is, name, value
unfoldable pub variable_line : Variable → List ℕ
variable_line v = (if v.system then codes "system\t" else codes "user\t") ++ field v.name ++ 9 ∷ field v.value ++ 10 ∷ []

-- component, product, key path
unfoldable pub client_line : Client → List ℕ
client_line c = guid_text c.component.number ++ 9 ∷ guid_text c.product.number ++ 9 ∷ field c.key_path ++ 10 ∷ []

-- a property of the system, and its value
unfoldable pub system_line : List ℕ → List ℕ → List ℕ
system_line property value = field property ++ 9 ∷ field value ++ 10 ∷ []
