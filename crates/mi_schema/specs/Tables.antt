-- The layouts of the known tables, and the list of the tables that are known or refused, in byte order of their names.
-- (Database Tables.)
use Rattle.std.specs.Prelude.{ℕ, pos, negsuc, true, false, List, [], ◌∷◌, codes, map}
use Rattle.mi_rows.specs.Columns.{Column, Table, refused}
use Rattle.mi_schema.specs.declared.known.Known.{Known}
use Rattle.mi_schema.specs.declared.known.Known.TheVariants as of
use Rattle.mi_schema.specs.declared.known.Listed.{Listed as InList}
use Rattle.mi_schema.specs.declared.known.Listed.TheVariants as code
use Rattle.mi_rows.specs.declared.column.Kind.{Kind}
use Rattle.mi_rows.specs.declared.column.Kind.TheVariants.{Text, Name, Pattern, Formatted, Condition, Code, Integer}
use Rattle.mi_rows.specs.declared.column.Rule.{Rule}
use Rattle.mi_rows.specs.declared.column.Rule.TheVariants.{Free, PropertyName, PropertyValue, OneRoot, DefaultDir, NewCode, Without, Within, VersionOrKey, Languages, WordCount}

-- ---- words of the list

abbrev pub key : List ℕ → Kind → Rule → Column
key n k r = record { name = n; kind = k; nullable = false; key = true; rule = r }

abbrev pub key_or_null : List ℕ → Kind → Rule → Column
key_or_null n k r = record { name = n; kind = k; nullable = true; key = true; rule = r }

abbrev pub needs : List ℕ → Kind → Rule → Column
needs n k r = record { name = n; kind = k; nullable = false; key = false; rule = r }

abbrev pub allows : List ℕ → Kind → Rule → Column
allows n k r = record { name = n; kind = k; nullable = true; key = false; rule = r }

abbrev pub known : List ℕ → List Column → Table
known n cs = record { name = n; columns = cs }

-- ---- the layouts

abbrev pub layout_of : Known → Table
layout_of of.Component = known (codes "Component") (
    key (codes "Component") Text Free ∷ allows (codes "ComponentId") Code NewCode ∷ needs (codes "Directory_") Text Free
    ∷ needs (codes "Attributes") Integer (Without 97) ∷ allows (codes "Condition") Condition Free
    ∷ allows (codes "KeyPath") Text Free ∷ [])
layout_of of.Condition = known (codes "Condition") (
    key (codes "Feature_") Text Free ∷ key (codes "Level") Integer Free ∷ allows (codes "Condition") Condition Free ∷ [])
layout_of of.CreateFolder = known (codes "CreateFolder") (key (codes "Directory_") Text Free ∷ key (codes "Component_") Text Free ∷ [])
layout_of of.CustomAction = known (codes "CustomAction") (
    key (codes "Action") Text Free ∷ needs (codes "Type") Integer Free ∷ allows (codes "Source") Text Free
    ∷ allows (codes "Target") Formatted Free ∷ [])
layout_of of.Directory = known (codes "Directory") (
    key (codes "Directory") Text Free ∷ allows (codes "Directory_Parent") Text OneRoot
    ∷ needs (codes "DefaultDir") Text DefaultDir ∷ [])
layout_of of.DuplicateFile = known (codes "DuplicateFile") (
    key (codes "FileKey") Text Free ∷ needs (codes "Component_") Text Free ∷ needs (codes "File_") Text Free
    ∷ allows (codes "DestName") Name Free ∷ allows (codes "DestFolder") Text Free ∷ [])
layout_of of.Environment = known (codes "Environment") (
    key (codes "Environment") Text Free ∷ needs (codes "Name") Text Free ∷ allows (codes "Value") Formatted Free
    ∷ needs (codes "Component_") Text Free ∷ [])
layout_of of.Feature = known (codes "Feature") (
    key (codes "Feature") Text Free ∷ allows (codes "Feature_Parent") Text Free ∷ allows (codes "Title") Text Free
    ∷ allows (codes "Description") Text Free ∷ allows (codes "Display") Integer Free ∷ needs (codes "Level") Integer Free
    ∷ allows (codes "Directory_") Text Free ∷ needs (codes "Attributes") Integer Free ∷ [])
layout_of of.FeatureComponents = known (codes "FeatureComponents") (key (codes "Feature_") Text Free ∷ key (codes "Component_") Text Free ∷ [])
layout_of of.File = known (codes "File") (
    key (codes "File") Text Free ∷ needs (codes "Component_") Text Free ∷ needs (codes "FileName") Name Free
    ∷ needs (codes "FileSize") Integer (Within (pos 0) (pos 2147483647)) ∷ allows (codes "Version") Text VersionOrKey
    ∷ allows (codes "Language") Text Languages ∷ allows (codes "Attributes") Integer Free ∷ needs (codes "Sequence") Integer Free
    ∷ [])
layout_of of.InstallExecuteSequence = known (codes "InstallExecuteSequence") (
    key (codes "Action") Text Free ∷ allows (codes "Condition") Condition Free ∷ allows (codes "Sequence") Integer Free ∷ [])
layout_of of.LaunchCondition = known (codes "LaunchCondition") (key (codes "Condition") Condition Free ∷ needs (codes "Description") Formatted Free ∷ [])
layout_of of.MsiFileHash = known (codes "MsiFileHash") (
    key (codes "File_") Text Free ∷ needs (codes "Options") Integer Free ∷ needs (codes "HashPart1") Integer Free
    ∷ needs (codes "HashPart2") Integer Free ∷ needs (codes "HashPart3") Integer Free ∷ needs (codes "HashPart4") Integer Free
    ∷ [])
layout_of of.Property = known (codes "Property") (key (codes "Property") Text PropertyName ∷ needs (codes "Value") Text PropertyValue ∷ [])
layout_of of.Registry = known (codes "Registry") (
    key (codes "Registry") Text Free ∷ needs (codes "Root") Integer (Within (negsuc 0) (pos 3))
    ∷ needs (codes "Key") Formatted Free ∷ allows (codes "Name") Formatted Free ∷ allows (codes "Value") Formatted Free
    ∷ needs (codes "Component_") Text Free ∷ [])
layout_of of.RemoveFile = known (codes "RemoveFile") (
    key (codes "FileKey") Text Free ∷ needs (codes "Component_") Text Free ∷ allows (codes "FileName") Pattern Free
    ∷ needs (codes "DirProperty") Text Free ∷ needs (codes "InstallMode") Integer (Within (pos 1) (pos 3)) ∷ [])
layout_of of.RemoveRegistry = known (codes "RemoveRegistry") (
    key (codes "RemoveRegistry") Text Free ∷ needs (codes "Root") Integer (Within (negsuc 0) (pos 3))
    ∷ needs (codes "Key") Formatted Free ∷ allows (codes "Name") Formatted Free ∷ needs (codes "Component_") Text Free ∷ [])
layout_of of.Shortcut = known (codes "Shortcut") (
    key (codes "Shortcut") Text Free ∷ needs (codes "Directory_") Text Free ∷ needs (codes "Name") Name Free
    ∷ needs (codes "Component_") Text Free ∷ needs (codes "Target") Formatted Free ∷ allows (codes "Arguments") Formatted Free
    ∷ allows (codes "Description") Text Free ∷ allows (codes "Hotkey") Integer (Within (pos 0) (pos 65535))
    ∷ allows (codes "Icon_") Text Free ∷ allows (codes "IconIndex") Integer (Within (negsuc 32766) (pos 32767))
    ∷ allows (codes "ShowCmd") Integer (Within (pos 0) (pos 65535)) ∷ allows (codes "WkDir") Text Free ∷ [])
layout_of of.SummaryInformation = known (codes "_SummaryInformation") (key (codes "PropertyId") Integer Free ∷ allows (codes "Value") Text WordCount ∷ [])
layout_of of.Upgrade = known (codes "Upgrade") (
    key (codes "UpgradeCode") Text Free ∷ key_or_null (codes "VersionMin") Text Free ∷ key_or_null (codes "VersionMax") Text Free
    ∷ key_or_null (codes "Language") Text Free ∷ key (codes "Attributes") Integer Free ∷ allows (codes "Remove") Text Free
    ∷ needs (codes "ActionProperty") Text Free ∷ [])

-- the properties that each package has
abbrev pub required_properties : List (List ℕ)
required_properties = codes "Manufacturer" ∷ codes "ProductCode" ∷ codes "ProductLanguage" ∷ codes "ProductName" ∷ codes "ProductVersion" ∷ []

-- ---- the list

-- a known table, or one that is refused where it holds a row
pub data Listed : Type 0 where
  Loaded : (k : Known) → Listed
  Refused : (name : List ℕ) → Listed

abbrev pub table_of : Listed → Table
table_of (Loaded k) = layout_of k
table_of (Refused name) = refused name

-- a table of the list as the program has it
abbrev pub listed_as : InList → Listed
listed_as (code.Known k) = Loaded k
listed_as (code.Refused name) = Refused name.now

unfoldable pub listed : List Listed
listed =
    Refused (codes "AppId") ∷ Refused (codes "BindImage") ∷ Refused (codes "Class") ∷ Refused (codes "Complus")
    ∷ Loaded of.Component ∷ Loaded of.Condition ∷ Loaded of.CreateFolder ∷ Loaded of.CustomAction ∷ Loaded of.Directory
    ∷ Loaded of.DuplicateFile ∷ Loaded of.Environment ∷ Refused (codes "Extension") ∷ Loaded of.Feature
    ∷ Loaded of.FeatureComponents ∷ Loaded of.File ∷ Refused (codes "Font") ∷ Refused (codes "IniFile")
    ∷ Loaded of.InstallExecuteSequence ∷ Refused (codes "IsolatedComponent") ∷ Loaded of.LaunchCondition
    ∷ Refused (codes "LockPermissions") ∷ Refused (codes "MIME") ∷ Refused (codes "MoveFile") ∷ Refused (codes "MsiAssembly")
    ∷ Loaded of.MsiFileHash ∷ Refused (codes "ODBCAttribute") ∷ Refused (codes "ODBCDataSource") ∷ Refused (codes "ODBCDriver")
    ∷ Refused (codes "ODBCSourceAttribute") ∷ Refused (codes "ODBCTranslator") ∷ Refused (codes "ProgId") ∷ Loaded of.Property
    ∷ Refused (codes "PublishComponent") ∷ Loaded of.Registry ∷ Loaded of.RemoveFile ∷ Refused (codes "RemoveIniFile")
    ∷ Loaded of.RemoveRegistry ∷ Refused (codes "SelfReg") ∷ Refused (codes "ServiceControl") ∷ Refused (codes "ServiceInstall")
    ∷ Loaded of.Shortcut ∷ Refused (codes "TypeLib") ∷ Loaded of.Upgrade ∷ Refused (codes "Verb") ∷ Loaded of.SummaryInformation
    ∷ []

abbrev pub tables : List Table
tables = map table_of listed
