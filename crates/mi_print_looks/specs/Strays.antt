-- Values whose keys aren't recorded (this project's own).
use Rattle.std.specs.Prelude.{ℕ, if◌then◌else◌, List, [], Option, Some, is_none}
use Rattle.mi_base.specs.declared.entry.Entry.{Entry}
use Rattle.mi_base.specs.declared.entry.Entry.TheVariants as entry
use Rattle.mi_base.specs.Machine.{Machine, key_at}
use Rattle.mi_print.specs.Registry.{stray}

-- a value whose key isn't recorded
abbrev pub stray_at : Machine → Option Entry → List ℕ
stray_at m (Some (entry.Value k v)) = if is_none (key_at m k.root k.key) then stray k.root k.key k.shown v else []
stray_at m other = []
