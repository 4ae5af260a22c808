-- What may come in the place of the count of a shared file. (Component Table, Attributes, msidbComponentAttributesSharedDllRefCount.)
use Rattle.std.specs.Prelude.{◌≡◌, false}
use Rattle.mi_text.specs.Maps.{Name}
use Rattle.mi_base.specs.declared.entry.Entry.{Entry}
use Rattle.mi_base.specs.Spelling.{name_of}
use Rattle.mi_steps.specs.Makes.{is_file}

-- it stands at this name, and is no file
abbrev pub MayStandAt : Name → Entry → Type 0
MayStandAt q e = (name_of e ≡ q) × (is_file e ≡ false)
