-- Texts of rows are no longer than their file; conditions are what texts read as; names have parts that are names.
use Rattle.std.proofs.Common.{◌≡◌, ◌⊎◌, ◌&&◌, ◌||◌, ℕ, zero, suc, ◌≤◌, Bool, true, false, cond, List, [], ◌∷◌, length, map, take, get_or, Option, Some, None, refl, sym, ap, subst, arith, inl, inr}
use Rattle.std.specs.Prelude.{IfSome, unwrap_or, codes, slice_index, ◌-◌, ◌==◌}
use Rattle.std.specs.List.{slice_split, onto_first, AllZip}
use Rattle.std.specs.Str.{bytes_eq}
use Rattle.std.specs.Str.Lines.{lines_of_parts, strip_carriage_return}
use Rattle.std.specs.Cmp.Lexicographic.{bytes_decides}
use Rattle.std.proofs.lemmas.List.{length-map, length-take}
use Rattle.mi_text.specs.FileNames.{is_file_name, is_file_pattern, is_folder_name, is_default_dir, is_pattern_part, short_name, long_name, target_part, source_part}
use Rattle.mi_text.specs.Path.{is_part}
use Rattle.mi_idt.specs.Cells as raw
use Rattle.mi_idt.specs.Fields.{fields_of, unescaped}
use Rattle.mi_idt.specs.Spells.{SpellsFields, SpellsRow}
use Rattle.mi_rows.specs.Cells.{Cell}
use Rattle.mi_rows.specs.Cells as cell
use Rattle.mi_rows.specs.declared.column.Kind.{Kind}
use Rattle.mi_rows.specs.declared.column.Kind.TheVariants as kind
use Rattle.mi_schema.specs.declared.known.Known.TheVariants as known
use Rattle.mi_schema.specs.declared.package.Package.{Package}
use Rattle.mi_schema.specs.Checks.{Content, rows_at}
use Rattle.mi_schema.specs.Laws.{IsShort, AreShort, TextsShort, IsOfText, ConditionsStand, AreNames, ArePatterns, IsFolder, NamesStand, ValuesStand}
use Rattle.mi_schema.specs.RowsOf.{IsPackage}
use Rattle.mi_rows.specs.Columns.{Column, Table}
use Rattle.mi_schema.proofs.KnownTables.{component, condition, create_folder, custom_action, directory, duplicate_file, environment, feature, feature_components, file, install_execute_sequence, launch_condition, msi_file_hash, property, registry, remove_file, remove_registry, shortcut, summary_information, upgrade}
use Rattle.mi_schema.specs.TypedRows.{component_row, condition_row, create_folder_row, custom_action_row, directory_row, duplicate_file_row, environment_row, feature_row, feature_components_row, file_row, install_execute_sequence_row, launch_condition_row, msi_file_hash_row, property_row, registry_row, remove_file_row, remove_registry_row, shortcut_row, summary_information_row, upgrade_row}
use Rattle.mi_rows.specs.Typed.{some_condition_in, text_key, text_number_key, texts_key, number_key, upgrade_key}
use Rattle.mi_rows.specs.Values.{Row, row_of, text_value, text_in, text_at, is_root_below}
use Rattle.mi_schema.proofs.CellLaws.{AreTables, IsKnown, is_known, OfKind, value_at, of_table}
use Rattle.mi_rows.proofs.ConditionLaws.{reads_exactly}
use Rattle.mi_schema.proofs.PackageLaws.{keys_stand, values_stand}
use Rattle.mi_schema.proofs.ReferenceLaws.{each_keyed, stands_here}
use Rattle.mi_rows.proofs.SuitLemmas.{faultless}
use Rattle.mi_schema.proofs.Words.{IsOfTables}
use Rattle.mi_rows.proofs.Words.{AreRowsOf}

-- ---- parts of a text are no longer

-- each has at most n bytes
abbrev pub Within : ℕ → List (List ℕ) → Type 0
Within n [] = Unit {0}
Within n (part ∷ parts) = (length part ≤ n) × Within n parts

within_more : (n m : ℕ) → n ≤ m → (parts : List (List ℕ)) → Within n parts → Within m parts
within_more n m le [] w = tt
within_more n m le (part ∷ parts) w = ((let lt = w.0 in omega (arith, lt, le)), within_more n m le parts w.1)

onto_within : (n x : ℕ) (parts : List (List ℕ)) → Within n parts → Within (suc n) (onto_first x parts)
onto_within n x [] w = (omega arith, tt)
onto_within n x (part ∷ parts) w = ((let lt = w.0 in omega (arith, lt)), within_more n (suc n) (omega arith) parts w.1)

parts_within : (p : ℕ → Bool) (xs : List ℕ) → Within (length xs) (slice_split p xs)
parts_within p [] = (omega arith, tt)
parts_within p (x ∷ xs) = elim (p x) as (λ b. Within (suc (length xs)) (cond b ([] ∷ slice_split p xs) (onto_first x (slice_split p xs)))) [
  | true ↦ (omega arith, within_more (length xs) (suc (length xs)) (omega arith) (slice_split p xs) (parts_within p xs))
  | false ↦ onto_within (length xs) x (slice_split p xs) (parts_within p xs)
]

stripped : (l : List ℕ) → length (strip_carriage_return l) ≤ length l
stripped l = elim (slice_index l (length l - 1) == 13) as (λ b. length (cond b (take (length l - 1) l) l) ≤ length l) [
  | true ↦ (let e = length-take (length l - 1) l in omega (arith, e))
  | false ↦ omega arith
]

lines_within : (n : ℕ) (parts : List (List ℕ)) → Within n parts → Within n (lines_of_parts parts)
lines_within n [] w = tt
lines_within n (x ∷ []) w = elim (length x == 0) as (λ b. Within n (cond b [] (x ∷ []))) [ true ↦ tt | false ↦ w ]
lines_within n (x ∷ y ∷ more) w = ((let le = stripped x in let lt = w.0 in omega (arith, le, lt)), lines_within n (y ∷ more) w.1)

-- ---- texts of rows

abbrev pub ShortCells : ℕ → List raw.Cell → Type 0
ShortCells n [] = Unit {0}
ShortCells n (raw.Text text ∷ cells) = (length text ≤ n) × ShortCells n cells
ShortCells n (other ∷ cells) = ShortCells n cells

fields_short : (n : ℕ) (columns : List raw.ColumnValue) (fields : List (List ℕ)) (cells : List raw.Cell) → SpellsFields columns fields cells → Within n fields → ShortCells n cells
fields_short n [] [] [] s w = tt
fields_short n [] [] (x ∷ xs) s w = absurd s
fields_short n [] (f ∷ fs) xs s w = absurd s
fields_short n (c ∷ cs) [] xs s w = absurd s
fields_short n (c ∷ cs) (f ∷ fs) [] s w = absurd s
fields_short n (c ∷ cs) (f ∷ fs) (raw.Nothing ∷ xs) s w = fields_short n cs fs xs s.1 w.1
fields_short n (c ∷ cs) (f ∷ fs) (raw.Number z ∷ xs) s w = fields_short n cs fs xs s.1 w.1
fields_short n (c ∷ cs) (f ∷ fs) (raw.Text text ∷ xs) s w =
    ((let is = ap length s.0.2 in let long = length-map f unescaped in let lt = w.0 in omega (arith, is, long, lt)), fields_short n cs fs xs s.1 w.1)

abbrev pub ShortValue : ℕ → Option Cell → Type 0
ShortValue n x = IfSome (text_in x) (λ text. length text ≤ n)

text_short : (n : ℕ) (k : Kind) (text : List ℕ) → length text ≤ n → ShortValue n (Some (text_value k text))
text_short n kind.Code text lt = tt
text_short n kind.Condition text lt = lt
text_short n other text lt = lt

values_short : (n : ℕ) (cs : List Column) (cells : List raw.Cell) → ShortCells n cells → (i : ℕ) → ShortValue n (get_or (row_of cs cells) i None)
values_short n [] cells s i = tt
values_short n (c ∷ cs) [] s i = tt
values_short n (c ∷ cs) (raw.Nothing ∷ cells) s zero = tt
values_short n (c ∷ cs) (raw.Number z ∷ cells) s zero = tt
values_short n (c ∷ cs) (raw.Text text ∷ cells) s zero = text_short n c.kind text s.0
values_short n (c ∷ cs) (raw.Nothing ∷ cells) s (suc i) = values_short n cs cells s i
values_short n (c ∷ cs) (raw.Number z ∷ cells) s (suc i) = values_short n cs cells s i
values_short n (c ∷ cs) (raw.Text text ∷ cells) s (suc i) = values_short n cs cells s.1 i

abbrev pub ShortRows : ℕ → List Row → Type 0
ShortRows n rows = (k i : ℕ) → ShortValue n (value_at rows k i)

rows_short : (n : ℕ) (cs : List Column) (page : Option ℕ) (columns : List raw.ColumnValue) (ls : List (List ℕ)) (rows : List (List raw.Cell)) → Within n ls → AllZip (SpellsRow page columns) ls rows → ShortRows n (map (row_of cs) rows)
rows_short n cs page columns [] [] w zip k i = tt
rows_short n cs page columns [] (cells ∷ rows) w zip k i = absurd zip
rows_short n cs page columns (l ∷ ls) [] w zip k i = absurd zip
rows_short n cs page columns (l ∷ ls) (cells ∷ rows) w zip zero i =
    values_short n cs cells (fields_short n columns (fields_of l) cells zip.0.1 (within_more (length l) n w.0 (fields_of l) (parts_within (λ b. b == 9) l))) i
rows_short n cs page columns (l ∷ ls) (cells ∷ rows) w zip (suc k) i = rows_short n cs page columns ls rows w.1 zip.1 k i

table_short : (t : Table) (rows : List Row) → AreRowsOf t rows → ShortRows 16777216 rows
table_short t rows are k i = elim (faultless t rows are) [
  | inl none ↦ subst (λ (rs : List Row). ShortValue 16777216 (value_at rs k i)) (sym none) tt
  | inr known ↦
      let bytes = known.1.apart.0 in
      let spells = known.1.apart.1 in
      let all : Within 16777216 (spells.names ∷ spells.definitions ∷ spells.head ∷ spells.rows) = subst (Within 16777216) spells.lines_are (lines_within 16777216 (slice_split (λ b. b == 10) bytes) (within_more (length bytes) 16777216 spells.small (slice_split (λ b. b == 10) bytes) (parts_within (λ b. b == 10) bytes))) in
      subst (λ (rs : List Row). ShortValue 16777216 (value_at rs k i)) known.1.held
      (rows_short 16777216 t.columns known.0.page known.0.columns spells.rows known.0.rows all.1.1.1 spells.spelled.rows_are k i)
]

or_empty : (o : Option (List ℕ)) → IfSome o IsShort → IsShort (unwrap_or o [])
or_empty None h = omega arith
or_empty (Some text) h = h

-- ---- conditions

condition_of_text : (x : Option Cell) → ShortValue 16777216 x → OfKind x kind.Condition → IfSome (some_condition_in x) IsOfText
condition_of_text None short is = tt
condition_of_text (Some (cell.Text text)) short is = tt
condition_of_text (Some (cell.Integer z)) short is = tt
condition_of_text (Some (cell.Code code)) short is = tt
condition_of_text (Some (cell.Condition text tree)) short is = (text, short, (reads_exactly text tree).0 is)

-- ---- names

both_on : (a b : Bool) → (a && b) ≡ true → (a ≡ true) × (b ≡ true)
both_on true b e = (refl, e)
both_on false b e = cc

names_of : (text : List ℕ) → is_file_name text ≡ true → AreNames text
names_of text e = both_on (is_part (short_name text)) (is_part (long_name text)) e

patterns_of : (text : List ℕ) → is_file_pattern text ≡ true → ArePatterns text
patterns_of text e = both_on (is_pattern_part (short_name text)) (is_pattern_part (long_name text)) e

if_those : (P Q : List ℕ → Type 0) → ((text : List ℕ) → P text → Q text) → (o : Option (List ℕ)) → IfSome o P → IfSome o Q
if_those P Q h None e = tt
if_those P Q h (Some text) e = h text e

folder_of : (text : List ℕ) → is_folder_name text ≡ true → IsFolder text
folder_of text e = by (bytes_eq text (codes ".")) refl e
  where
    by : (b : Bool) → bytes_eq text (codes ".") ≡ b → (b || is_file_name text) ≡ true → IsFolder text
    by true is f = inl ((bytes_decides text (codes ".")).0 is)
    by false is f = inr (names_of text f)

folders_of : (text : List ℕ) → is_default_dir text ≡ true → IsFolder (target_part text) × IsFolder (source_part text)
folders_of text e = let parts = both_on (is_folder_name (target_part text)) (is_folder_name (source_part text)) e in (folder_of (target_part text) parts.0, folder_of (source_part text) parts.1)

-- ---- the laws

module _ (p : Package) (lawful : IsOfTables p) where
  abbrev content : Content
  content = lawful.content

  abbrev are : AreTables content
  are = lawful.right_tables

  abbrev is : IsPackage p content
  is = lawful.is

  some : (t : Table) → IsKnown t → (n i : ℕ) → IfSome (text_in (value_at (rows_at content t) n i)) IsShort
  some t known n i = table_short t (rows_at content t) (of_table content are t known) n i

  one : (t : Table) → IsKnown t → (n i : ℕ) → IsShort (text_at (get_or (rows_at content t) n []) i)
  one t known n i = or_empty (text_in (value_at (rows_at content t) n i)) (some t known n i)

  pub texts_short : TextsShort p
  texts_short = record {
    component = each_keyed text_key component_row (λ e. let r = e.1 in AreShort (Some r.component ∷ Some r.directory ∷ r.key_path ∷ [])) (rows_at content component) p.component.entries (is.rows known.Component) (λ n lt. (one component (is_known known.Component) n 0, (one component (is_known known.Component) n 2, (some component (is_known known.Component) n 5, tt))));
    condition = each_keyed text_number_key condition_row (λ e. let r = e.1 in AreShort (Some r.feature ∷ [])) (rows_at content condition) p.condition.entries (is.rows known.Condition) (λ n lt. (one condition (is_known known.Condition) n 0, tt));
    create_folder = each_keyed texts_key create_folder_row (λ e. let r = e.1 in AreShort (Some r.directory ∷ Some r.component ∷ [])) (rows_at content create_folder) p.create_folder.entries (is.rows known.CreateFolder) (λ n lt. (one create_folder (is_known known.CreateFolder) n 0, (one create_folder (is_known known.CreateFolder) n 1, tt)));
    custom_action = each_keyed text_key custom_action_row (λ e. let r = e.1 in AreShort (Some r.action ∷ r.source ∷ r.target ∷ [])) (rows_at content custom_action) p.custom_action.entries (is.rows known.CustomAction) (λ n lt. (one custom_action (is_known known.CustomAction) n 0, (some custom_action (is_known known.CustomAction) n 2, (some custom_action (is_known known.CustomAction) n 3, tt))));
    directory = each_keyed text_key directory_row (λ e. let r = e.1 in AreShort (Some r.directory ∷ r.directory_parent ∷ Some r.default_dir ∷ [])) (rows_at content directory) p.directory.entries (is.rows known.Directory) (λ n lt. (one directory (is_known known.Directory) n 0, (some directory (is_known known.Directory) n 1, (one directory (is_known known.Directory) n 2, tt))));
    duplicate_file = each_keyed text_key duplicate_file_row (λ e. let r = e.1 in AreShort (Some r.file_key ∷ Some r.component ∷ Some r.file ∷ r.dest_name ∷ r.dest_folder ∷ [])) (rows_at content duplicate_file) p.duplicate_file.entries (is.rows known.DuplicateFile) (λ n lt. (one duplicate_file (is_known known.DuplicateFile) n 0, (one duplicate_file (is_known known.DuplicateFile) n 1, (one duplicate_file (is_known known.DuplicateFile) n 2, (some duplicate_file (is_known known.DuplicateFile) n 3, (some duplicate_file (is_known known.DuplicateFile) n 4, tt))))));
    environment = each_keyed text_key environment_row (λ e. let r = e.1 in AreShort (Some r.environment ∷ Some r.name ∷ r.value ∷ Some r.component ∷ [])) (rows_at content environment) p.environment.entries (is.rows known.Environment) (λ n lt. (one environment (is_known known.Environment) n 0, (one environment (is_known known.Environment) n 1, (some environment (is_known known.Environment) n 2, (one environment (is_known known.Environment) n 3, tt)))));
    feature = each_keyed text_key feature_row (λ e. let r = e.1 in AreShort (Some r.feature ∷ r.feature_parent ∷ r.title ∷ r.description ∷ r.directory ∷ [])) (rows_at content feature) p.feature.entries (is.rows known.Feature) (λ n lt. (one feature (is_known known.Feature) n 0, (some feature (is_known known.Feature) n 1, (some feature (is_known known.Feature) n 2, (some feature (is_known known.Feature) n 3, (some feature (is_known known.Feature) n 6, tt))))));
    feature_components = each_keyed texts_key feature_components_row (λ e. let r = e.1 in AreShort (Some r.feature ∷ Some r.component ∷ [])) (rows_at content feature_components) p.feature_components.entries (is.rows known.FeatureComponents) (λ n lt. (one feature_components (is_known known.FeatureComponents) n 0, (one feature_components (is_known known.FeatureComponents) n 1, tt)));
    file = each_keyed text_key file_row (λ e. let r = e.1 in AreShort (Some r.file ∷ Some r.component ∷ Some r.file_name ∷ r.version ∷ r.language ∷ [])) (rows_at content file) p.file.entries (is.rows known.File) (λ n lt. (one file (is_known known.File) n 0, (one file (is_known known.File) n 1, (one file (is_known known.File) n 2, (some file (is_known known.File) n 4, (some file (is_known known.File) n 5, tt))))));
    install_execute_sequence = each_keyed text_key install_execute_sequence_row (λ e. let r = e.1 in AreShort (Some r.action ∷ [])) (rows_at content install_execute_sequence) p.install_execute_sequence.entries (is.rows known.InstallExecuteSequence) (λ n lt. (one install_execute_sequence (is_known known.InstallExecuteSequence) n 0, tt));
    launch_condition = each_keyed text_key launch_condition_row (λ e. let r = e.1 in AreShort (Some r.description ∷ [])) (rows_at content launch_condition) p.launch_condition.entries (is.rows known.LaunchCondition) (λ n lt. (one launch_condition (is_known known.LaunchCondition) n 1, tt));
    msi_file_hash = each_keyed text_key msi_file_hash_row (λ e. let r = e.1 in AreShort (Some r.file ∷ [])) (rows_at content msi_file_hash) p.msi_file_hash.entries (is.rows known.MsiFileHash) (λ n lt. (one msi_file_hash (is_known known.MsiFileHash) n 0, tt));
    property = each_keyed text_key property_row (λ e. let r = e.1 in AreShort (Some r.property ∷ Some r.value ∷ [])) (rows_at content property) p.property.entries (is.rows known.Property) (λ n lt. (one property (is_known known.Property) n 0, (one property (is_known known.Property) n 1, tt)));
    registry = each_keyed text_key registry_row (λ e. let r = e.1 in AreShort (Some r.registry ∷ Some r.key ∷ r.name ∷ r.value ∷ Some r.component ∷ [])) (rows_at content registry) p.registry.entries (is.rows known.Registry) (λ n lt. (one registry (is_known known.Registry) n 0, (one registry (is_known known.Registry) n 2, (some registry (is_known known.Registry) n 3, (some registry (is_known known.Registry) n 4, (one registry (is_known known.Registry) n 5, tt))))));
    remove_file = each_keyed text_key remove_file_row (λ e. let r = e.1 in AreShort (Some r.file_key ∷ Some r.component ∷ r.file_name ∷ Some r.dir_property ∷ [])) (rows_at content remove_file) p.remove_file.entries (is.rows known.RemoveFile) (λ n lt. (one remove_file (is_known known.RemoveFile) n 0, (one remove_file (is_known known.RemoveFile) n 1, (some remove_file (is_known known.RemoveFile) n 2, (one remove_file (is_known known.RemoveFile) n 3, tt)))));
    remove_registry = each_keyed text_key remove_registry_row (λ e. let r = e.1 in AreShort (Some r.remove_registry ∷ Some r.key ∷ r.name ∷ Some r.component ∷ [])) (rows_at content remove_registry) p.remove_registry.entries (is.rows known.RemoveRegistry) (λ n lt. (one remove_registry (is_known known.RemoveRegistry) n 0, (one remove_registry (is_known known.RemoveRegistry) n 2, (some remove_registry (is_known known.RemoveRegistry) n 3, (one remove_registry (is_known known.RemoveRegistry) n 4, tt)))));
    shortcut = each_keyed text_key shortcut_row (λ e. let r = e.1 in AreShort (Some r.shortcut ∷ Some r.directory ∷ Some r.name ∷ Some r.component ∷ Some r.target ∷ r.arguments ∷ r.description ∷ r.icon ∷ r.wk_dir ∷ [])) (rows_at content shortcut) p.shortcut.entries (is.rows known.Shortcut) (λ n lt. (one shortcut (is_known known.Shortcut) n 0, (one shortcut (is_known known.Shortcut) n 1, (one shortcut (is_known known.Shortcut) n 2, (one shortcut (is_known known.Shortcut) n 3, (one shortcut (is_known known.Shortcut) n 4, (some shortcut (is_known known.Shortcut) n 5, (some shortcut (is_known known.Shortcut) n 6, (some shortcut (is_known known.Shortcut) n 8, (some shortcut (is_known known.Shortcut) n 11, tt))))))))));
    summary_information = each_keyed number_key summary_information_row (λ e. let r = e.1 in AreShort (r.value ∷ [])) (rows_at content summary_information) p.summary_information.entries (is.rows known.SummaryInformation) (λ n lt. (some summary_information (is_known known.SummaryInformation) n 1, tt));
    upgrade = each_keyed upgrade_key upgrade_row (λ e. let r = e.1 in AreShort (Some r.upgrade_code ∷ r.version_min ∷ r.version_max ∷ r.language ∷ r.remove ∷ Some r.action_property ∷ [])) (rows_at content upgrade) p.upgrade.entries (is.rows known.Upgrade) (λ n lt. (one upgrade (is_known known.Upgrade) n 0, (some upgrade (is_known known.Upgrade) n 1, (some upgrade (is_known known.Upgrade) n 2, (some upgrade (is_known known.Upgrade) n 3, (some upgrade (is_known known.Upgrade) n 5, (one upgrade (is_known known.Upgrade) n 6, tt)))))));
    launch_condition_key = each_keyed text_key launch_condition_row (λ e. IsShort e.0) (rows_at content launch_condition) p.launch_condition.entries (is.rows known.LaunchCondition) (λ n lt. one launch_condition (is_known known.LaunchCondition) n 0);
  }

  pub conditions_stand : ConditionsStand p
  conditions_stand = record {
    component = each_keyed text_key component_row (λ e. IfSome e.1.condition IsOfText) (rows_at content component) p.component.entries (is.rows known.Component) (λ n lt. condition_of_text (value_at (rows_at content component) n 4) (some component (is_known known.Component) n 4) (stands_here content are component (is_known known.Component) 4 n lt refl).1);
    condition = each_keyed text_number_key condition_row (λ e. IfSome e.1.condition IsOfText) (rows_at content condition) p.condition.entries (is.rows known.Condition) (λ n lt. condition_of_text (value_at (rows_at content condition) n 2) (some condition (is_known known.Condition) n 2) (stands_here content are condition (is_known known.Condition) 2 n lt refl).1);
    install_execute_sequence = each_keyed text_key install_execute_sequence_row (λ e. IfSome e.1.condition IsOfText) (rows_at content install_execute_sequence) p.install_execute_sequence.entries (is.rows known.InstallExecuteSequence) (λ n lt. condition_of_text (value_at (rows_at content install_execute_sequence) n 1) (some install_execute_sequence (is_known known.InstallExecuteSequence) n 1) (stands_here content are install_execute_sequence (is_known known.InstallExecuteSequence) 1 n lt refl).1);
    launch_condition = λ n d lt. (texts_short.launch_condition_key n d lt, (keys_stand p lawful.content lawful.right_tables lawful.is.rows).launch_condition n d lt);
  }

  pub names_stand : NamesStand p
  names_stand =
      let values : ValuesStand p = values_stand p lawful.content lawful.right_tables lawful.is.rows in
      record {
        directory = λ n d lt. folders (get_or p.directory.entries n d).1.directory (get_or p.directory.entries n d).1.directory_parent (get_or p.directory.entries n d).1.default_dir (values.directory_default_dir n d lt);
        duplicate_file = λ n d lt. if_those (λ name. is_file_name name ≡ true) AreNames names_of (get_or p.duplicate_file.entries n d).1.dest_name (values.duplicate_file_name n d lt);
        file = λ n d lt. names_of (get_or p.file.entries n d).1.file_name (values.file_name n d lt);
        remove_file = λ n d lt. if_those (λ name. is_file_pattern name ≡ true) ArePatterns patterns_of (get_or p.remove_file.entries n d).1.file_name (values.remove_file_name n d lt);
        shortcut = λ n d lt. names_of (get_or p.shortcut.entries n d).1.name (values.shortcut_name n d lt);
      }
    where
      folders : (own : List ℕ) (parent : Option (List ℕ)) (text : List ℕ) → (is_root_below own parent ≡ true) ⊎ (is_default_dir text ≡ true) → (is_root_below own parent ≡ true) ⊎ (IsFolder (target_part text) × IsFolder (source_part text))
      folders own parent text (inl root) = inl root
      folders own parent text (inr good) = inr (folders_of text good)
