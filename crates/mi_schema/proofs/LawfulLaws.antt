-- A package of tables without a fault is one that some files and a folder give.
use Rattle.std.proofs.Common.{◌≡◌, ℕ, false, cond, List, [], ◌∷◌, ◌++◌, take, drop, map, codes, Option, Some, None, refl, sym, ap, subst, ◌∙◌}
use Rattle.std.specs.Prelude.{unwrap_or, is_none, if◌then◌else◌}
use Rattle.mi_text.specs.Maps.{Name, same_name}
use Rattle.mi_base.specs.declared.answers.Fault.{Fault}
use Rattle.mi_base.specs.declared.answers.Fault.TheVariants.{MissingTable}
use Rattle.mi_schema.specs.declared.package.Package.{Package}
use Rattle.mi_schema.specs.declared.known.Known.{Known}
use Rattle.mi_schema.specs.declared.known.Known.TheVariants as known
use Rattle.mi_rows.specs.Rows.{Content, content_of, ◌or_else◌, table_fault, table_rows}
use Rattle.mi_schema.specs.Tables.{listed, tables, required_properties}
use Rattle.mi_rows.specs.Columns.{Table}
use Rattle.mi_schema.proofs.KnownTables.{install_execute_sequence, property}
use Rattle.mi_schema.specs.TypedRows.{property_row, install_execute_sequence_row}
use Rattle.mi_rows.specs.Typed.{text_key, keyed}
use Rattle.mi_schema.specs.RowsOf.{rows_of_content, Holds, HoldsAll, IsPackage}
use Rattle.mi_schema.specs.TableRows.{Rows}
use Rattle.mi_schema.specs.Checks.{first_fault, missing_table, missing_property, required_fault, references_fault, cycles_fault, compressed_fault, missing_fault, tables_fault, package_fault, load_fault}
use Rattle.mi_schema.specs.Lawful.{IsLawful}
use Rattle.mi_schema.proofs.FolderLemmas.{restricted, files_of, folder_holds, empty_sequence, empty_faultless, empty_rows}
use Rattle.mi_schema.proofs.RowLaws.{rows_in-IsPackage}
use Rattle.mi_schema.proofs.Words.{IsOfTables}

-- ---- faults one behind the other

first : {X : Type 0} (f g : Option X) → (f or_else g) ≡ None → f ≡ None
first None g e = refl
first (Some x) g e = absurd cc

second : {X : Type 0} (f g : Option X) → (f or_else g) ≡ None → g ≡ None
second None g e = e
second (Some x) g e = absurd cc

both : {X : Type 0} (f g : Option X) → f ≡ None → g ≡ None → (f or_else g) ≡ None
both f g e h = ap (λ o. o or_else g) e ∙ h

fault_append : {X : Type 0} (f : X → Option Fault) (xs ys : List X) → first_fault f (xs ++ ys) ≡ (first_fault f xs or_else first_fault f ys)
fault_append f [] ys = refl
fault_append f (x ∷ xs) ys = elim (f x) as (λ o. (o or_else first_fault f (xs ++ ys)) ≡ ((o or_else first_fault f xs) or_else first_fault f ys)) [
  | None ↦ fault_append f xs ys
  | Some y ↦ refl
]

-- ---- a missing sequence is one without rows

filled : Option (List ℕ) → Option (List ℕ)
filled o = Some (unwrap_or o empty_sequence)

filled_faultless : (o : Option (List ℕ)) → table_fault install_execute_sequence o ≡ None → table_fault install_execute_sequence (filled o) ≡ None
unfolding filled
filled_faultless None e = empty_faultless
filled_faultless (Some bytes) e = e

filled_rows : (o : Option (List ℕ)) → table_rows install_execute_sequence (filled o) ≡ table_rows install_execute_sequence o
unfolding filled
filled_rows None = empty_rows
filled_rows (Some bytes) = refl

-- the tables, where a sequence stands in any case
abbrev with_sequence : Content → Content
with_sequence content q = cond (same_name q (codes "InstallExecuteSequence")) (filled (content (codes "InstallExecuteSequence"))) (content q)

abbrev names : List Name
names = map (λ (t : Table). t.name) tables

abbrev held : Content → Content
held content = restricted (with_sequence content) names

-- ---- what is held

holds : (p : Package) (content : Content) → HoldsAll p content → (k : Known) → Holds p (held content) k
unfolding listed
holds p content h known.Component = h known.Component
holds p content h known.Condition = h known.Condition
holds p content h known.CreateFolder = h known.CreateFolder
holds p content h known.CustomAction = h known.CustomAction
holds p content h known.Directory = h known.Directory
holds p content h known.DuplicateFile = h known.DuplicateFile
holds p content h known.Environment = h known.Environment
holds p content h known.Feature = h known.Feature
holds p content h known.FeatureComponents = h known.FeatureComponents
holds p content h known.File = h known.File
holds p content h known.InstallExecuteSequence = h known.InstallExecuteSequence ∙ ap (keyed text_key install_execute_sequence_row) (sym (filled_rows (content (codes "InstallExecuteSequence"))))
holds p content h known.LaunchCondition = h known.LaunchCondition
holds p content h known.MsiFileHash = h known.MsiFileHash
holds p content h known.Property = h known.Property
holds p content h known.Registry = h known.Registry
holds p content h known.RemoveFile = h known.RemoveFile
holds p content h known.RemoveRegistry = h known.RemoveRegistry
holds p content h known.Shortcut = h known.Shortcut
holds p content h known.SummaryInformation = h known.SummaryInformation
holds p content h known.Upgrade = h known.Upgrade

same_package : (p : Package) (content : Content) → IsPackage p content → IsPackage p (held content)
unfolding listed
same_package p content is = record { short_names = is.short_names; rows = holds p content is.rows }

-- ---- no fault

abbrev fault_in : Content → Table → Option Fault
fault_in content t = table_fault t (content t.name)

faultless : (content : Content) → tables_fault content tables ≡ None → tables_fault (held content) tables ≡ None
unfolding listed
faultless content none =
    let front : List Table = take 17 tables in
    let back : List Table = drop 18 tables in
    let split = sym (fault_append (fault_in content) front (install_execute_sequence ∷ back)) ∙ none in
    let here = second (first_fault (fault_in content) front) (fault_in content install_execute_sequence or_else first_fault (fault_in content) back) split in
    fault_append (fault_in (held content)) front (install_execute_sequence ∷ back)
    ∙ both (first_fault (fault_in (held content)) front) (fault_in (held content) install_execute_sequence or_else first_fault (fault_in (held content)) back)
    (first (first_fault (fault_in content) front) (fault_in content install_execute_sequence or_else first_fault (fault_in content) back) split)
    (both (fault_in (held content) install_execute_sequence) (first_fault (fault_in (held content)) back)
    (filled_faultless (content (codes "InstallExecuteSequence")) (first (fault_in content install_execute_sequence) (first_fault (fault_in content) back) here))
    (second (fault_in content install_execute_sequence) (first_fault (fault_in content) back) here))

has_property : (o : Option (List ℕ)) → first_fault (missing_property (map property_row (table_rows property o))) required_properties ≡ None → is_none o ≡ false
has_property None none = absurd cc
has_property (Some bytes) none = refl

not_missing : (o : Option (List ℕ)) (table : Name) → is_none o ≡ false → (if is_none o then Some (MissingTable table) else None) ≡ None
not_missing None table e = absurd cc
not_missing (Some bytes) table e = refl

none_missing : (content : Content) → package_fault (rows_of_content content) ≡ None → missing_fault (held content) ≡ None
unfolding listed package_fault rows_of_content filled
none_missing content none =
    let rows : Rows = rows_of_content content in
    let required = first (required_fault rows) (references_fault rows or_else cycles_fault rows or_else compressed_fault rows) none in
    both (missing_table (held content) property.name) (missing_table (held content) install_execute_sequence.name)
    (not_missing (content (codes "Property")) (codes "Property") (has_property (content (codes "Property")) required))
    refl

-- ---- the law

pub of_folder : (p : Package) → IsOfTables p → IsLawful p
unfolding load_fault
of_folder p t =
    let content : Content = t.content in
    let is : IsPackage p (held content) = same_package p content t.is in
    let right : package_fault (rows_of_content (held content)) ≡ None = ap package_fault (sym (rows_in-IsPackage p (held content) is)) ∙ t.right in
    let missing : missing_fault (held content) ≡ None = none_missing content (ap package_fault (sym (rows_in-IsPackage p content t.is)) ∙ t.right) in
    let there : content_of (files_of (with_sequence content) names) [] ≡ held content = folder_holds (with_sequence content) names in
    let none = both (missing_fault (held content)) (tables_fault (held content) tables or_else package_fault (rows_of_content (held content))) missing
    (both (tables_fault (held content) tables) (package_fault (rows_of_content (held content))) (faultless content t.right_tables) right) in
    record {
      files = files_of (with_sequence content) names;
      folder = [];
      right = subst (λ (c : Content). (missing_fault c or_else tables_fault c tables or_else package_fault (rows_of_content c)) ≡ None) (sym there) none;
      is = subst (IsPackage p) (sym there) is;
    }

pub of_tables : (p : Package) → IsLawful p → IsOfTables p
unfolding load_fault
of_tables p lawful =
    let content : Content = content_of lawful.files lawful.folder in
    let rest = second (missing_fault content) (tables_fault content tables or_else package_fault (rows_of_content content)) lawful.right in
    record {
      content = content;
      right_tables = first (tables_fault content tables) (package_fault (rows_of_content content)) rest;
      is = lawful.is;
      right = ap package_fault (rows_in-IsPackage p content lawful.is) ∙ second (tables_fault content tables) (package_fault (rows_of_content content)) rest;
    }
