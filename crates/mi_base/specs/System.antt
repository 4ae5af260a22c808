-- The properties of the system (Property Reference). Their default values are this project's own.
use Rattle.std.specs.Prelude.{ℕ, Bool, List, [], ◌∷◌, find, nat_eq, codes, Option, option_map, if◌then◌else◌}
use Rattle.std.specs.List.{starts_with, list_any}
use Rattle.std.specs.Str.{bytes_eq}
use Rattle.std.specs.FinMap.{keys}
use Rattle.mi_text.specs.Maps.{Name}
use Rattle.mi_base.specs.Machine.{Machine, system_at}

-- the properties of a machine that holds none, each with its value
unfoldable pub default_system : List (List ℕ × List ℕ)
default_system =
    (codes "VersionNT", codes "603")
    ∷ (codes "VersionNT64", codes "603")
    ∷ (codes "Privileged", codes "1")
    ∷ (codes "AdminUser", codes "1")
    ∷ (codes "UserLanguageID", codes "1033")
    ∷ (codes "SystemLanguageID", codes "1033")
    ∷ (codes "WindowsFolder", codes "C:\\Windows\\")
    ∷ (codes "SystemFolder", codes "C:\\Windows\\System32\\")
    ∷ (codes "ProgramFilesFolder", codes "C:\\Program Files\\")
    ∷ (codes "ProgramFiles64Folder", codes "C:\\Program Files\\")
    ∷ (codes "CommonFilesFolder", codes "C:\\Program Files\\Common Files\\")
    ∷ (codes "CommonAppDataFolder", codes "C:\\ProgramData\\")
    ∷ (codes "AppDataFolder", codes "C:\\Users\\User\\AppData\\Roaming\\")
    ∷ (codes "LocalAppDataFolder", codes "C:\\Users\\User\\AppData\\Local\\")
    ∷ (codes "DesktopFolder", codes "C:\\Users\\User\\Desktop\\")
    ∷ (codes "StartMenuFolder", codes "C:\\ProgramData\\Start Menu\\")
    ∷ (codes "ProgramMenuFolder", codes "C:\\ProgramData\\Start Menu\\Programs\\")
    ∷ (codes "TempFolder", codes "C:\\Temp\\")
    ∷ []

-- the value of the property of this name
abbrev pub value_named : List ℕ → List (List ℕ × List ℕ) → Option (List ℕ)
value_named name properties = option_map (λ p. p.1) (find (λ p. bytes_eq p.0 name) properties)

-- a name of a property of the system
abbrev pub is_system_property : Name → Bool
is_system_property q = starts_with nat_eq q (codes "y/")

-- a property of the system is held
abbrev pub has_system : Machine → Bool
has_system m = list_any is_system_property (keys m)

-- what is read of a property: where none at all is held, its default value
unfoldable pub system_read : Machine → List ℕ → Option (List ℕ)
system_read m property = if has_system m then system_at m property else value_named property default_system
