-- Loading one table after the other.
use Rattle.std.proofs.Common.{◌≡◌, ℕ, zero, suc, ◌+◌, ◌<◌, ◌≤◌, Bool, true, false, cond, not, ◌&&◌, ◌||◌, List, [], ◌∷◌, ◌++◌, length, map, take, drop, get_or, refl, sym, ap, subst, ◌∙◌, arith, Option, None, Some, Ok, Err, OnOk, IfErr, Result, inl, inr}
use Rattle.std.proofs.Math.Seq.{take-length, drop-length}
use Rattle.std.specs.List.{list_any}
use Rattle.std.specs.Str.{bytes_eq}
use Rattle.std.proofs.lemmas.Bool.{cases_Bool}
use Rattle.std.proofs.lemmas.Slice.Eq.{bytes_eq-Decides}
use Rattle.std.proofs.lemmas.List.{take-append-drop, length-map}
use Rattle.mi_text.specs.Maps.{Name}
use Rattle.mi_source.specs.Counts.{Rose}
use Rattle.mi_source.specs.Paths.{Files}
use Rattle.mi_base.specs.declared.answers.Fault.{Fault}
use Rattle.mi_rows.specs.declared.error.LoadError.{LoadError}
use Rattle.mi_rows.specs.declared.error.LoadError.TheVariants.{NoMemory, Source, Table as TableFault}
use Rattle.mi_schema.specs.declared.known.Known.TheVariants as known
use Rattle.mi_schema.specs.declared.package.Package.{Package}
use Rattle.mi_rows.specs.Reads.{Answers, Fails, IsCounted}
use Rattle.mi_schema.specs.Checks.{Content, content_of, tables_fault}
use Rattle.mi_schema.specs.declared.known.Listed.{Listed as InCode}
use Rattle.mi_schema.specs.declared.known.Known.{Known}
use Rattle.mi_schema.specs.Tables.{Listed, listed, listed_as, table_of, tables, layout_of}
use Rattle.mi_rows.specs.Columns.{Table}
use Rattle.mi_schema.proofs.KnownTables as table
use Rattle.mi_schema.specs.TypedRows.{component_row, condition_row, create_folder_row, custom_action_row, directory_row, duplicate_file_row, environment_row, feature_row, feature_components_row, file_row, install_execute_sequence_row, launch_condition_row, msi_file_hash_row, property_row, registry_row, remove_file_row, remove_registry_row, shortcut_row, summary_information_row, upgrade_row}
use Rattle.mi_rows.specs.Typed.{text_key, text_number_key, texts_key, number_key, upgrade_key, keyed}
use Rattle.mi_schema.specs.Loaded.{AreRead, with_file, IsOther, IsPut, AreLoaded}
use Rattle.mi_schema.specs.RowsOf.{HoldsAll}
use Rattle.mi_rows.specs.Rows.{◌or_else◌, table_fault, table_rows}
use Rattle.mi_rows.specs.Values.{Row}
use Rattle.mi_rows.proofs.RowLemmas.{passed_on}
use Rattle.mi_rows.proofs.FitLemmas.{front, back}

pub rose_since : (before middle after : ℕ) → before ≤ middle → Rose middle after → Rose before after
rose_since before middle after le r = record { rose = λ h. let up = r.rose h in omega (arith, up, le) }

-- an error that is counted over a part
pub counted_since : (X Y : Type 0) (before middle after : ℕ) (e : LoadError) → before ≤ middle → IsCounted {X = X} (Rose middle after) (Err e) → IsCounted {X = Y} (Rose before after) (Err e)
counted_since X Y before middle after NoMemory le c = tt
counted_since X Y before middle after Source le c = rose_since before middle after le c
counted_since X Y before middle after (TableFault f) le c = tt

-- ---- names of tables

abbrev pub is_named : List Table → Name → Bool
is_named ts name = list_any (λ (t : Table). bytes_eq name t.name) ts

-- the content without the files of these tables
abbrev pub without : Content → List Table → Content
without content ts = λ name. cond (is_named ts name) None (content name)

-- no two tables have one name
abbrev pub are_apart : List Table → Bool
are_apart [] = true
are_apart (t ∷ ts) = not (is_named ts t.name) && are_apart ts

pub tables_apart : are_apart tables ≡ true
unfolding listed
tables_apart = refl

is_off : (b : Bool) → not b ≡ true → b ≡ false
is_off true e = cc
is_off false e = refl

neither : (a b : Bool) → (a || b) ≡ false → (a ≡ false) × (b ≡ false)
neither true b e = cc
neither false b e = (refl, e)

apart_behind : (a b : List Table) → are_apart (a ++ b) ≡ true → are_apart b ≡ true
apart_behind [] b e = e
apart_behind (t ∷ a) b e = apart_behind a b (back (not (is_named (a ++ b) t.name)) (are_apart (a ++ b)) e)

other_name : (a b : List Table) (t u : Table) → is_named (a ++ t ∷ b) u.name ≡ false → bytes_eq u.name t.name ≡ false
other_name [] b t u e = (neither (bytes_eq u.name t.name) (is_named b u.name) e).0
other_name (v ∷ a) b t u e = other_name a b t u (neither (bytes_eq u.name v.name) (is_named (a ++ t ∷ b) u.name) e).1

same_name_as : (n : Name) → bytes_eq n n ≡ true
same_name_as n = (bytes_eq-Decides n n).1 refl

-- ---- one file more

module _ (found : Content) (t : Table) (file : Option (List ℕ)) where
  abbrev next : Content
  next = with_file found t.name file

  pub right_more : (a b : List Table) → are_apart (a ++ t ∷ b) ≡ true → tables_fault found a ≡ None → table_fault t file ≡ None → tables_fault next (a ++ t ∷ []) ≡ None
  right_more [] b apart none here = ap (λ c. table_fault t (cond c file (found t.name)) or_else None) (same_name_as t.name) ∙ ap (λ (f : Option Fault). f or_else None) here
  right_more (u ∷ a) b apart none here =
      let other = other_name a b t u (is_off (is_named (a ++ t ∷ b) u.name) (front (not (is_named (a ++ t ∷ b) u.name)) (are_apart (a ++ t ∷ b)) apart)) in
      let parts = or_none (table_fault u (found u.name)) (tables_fault found a) none in
      ap (λ c. table_fault u (cond c file (found u.name)) or_else tables_fault next (a ++ t ∷ [])) other
      ∙ ap (λ (f : Option Fault). f or_else tables_fault next (a ++ t ∷ [])) parts.0
      ∙ right_more a b (back (not (is_named (a ++ t ∷ b) u.name)) (are_apart (a ++ t ∷ b)) apart) parts.1 here
    where
      or_none : (a b : Option Fault) → a or_else b ≡ None → (a ≡ None) × (b ≡ None)
      or_none None b e = (refl, e)
      or_none (Some x) b e = cc

  same_more : (content : Content) (rest : List Table) → found ≡ without content (t ∷ rest) → file ≡ content t.name → is_named rest t.name ≡ false → (name : Name) → next name ≡ without content rest name
  same_more content rest same is apart name = elim (cases_Bool (bytes_eq name t.name)) [
    | inl on ↦
        let one : name ≡ t.name = (bytes_eq-Decides name t.name).0 on in
        ap (λ c. cond c file (found name)) on ∙ is ∙ ap content (sym one) ∙ sym (ap (λ c. cond c None (content name)) (ap (is_named rest) one ∙ apart))
    | inr off ↦
        ap (λ c. cond c file (found name)) off ∙ ap (λ (c : Content). c name) same ∙ ap (λ c. cond (c || is_named rest name) None (content name)) off
  ]

-- ---- so many tables have been loaded

pub record LoadedSoFar (told : Type 0) (old new : Files) (before now : ℕ) (folder : Name) (ts : List Table) (i : ℕ) (p : Package) : Type 0 where
  pub found : Content
  pub same : told → found ≡ without (content_of old folder) (drop i ts)
  pub right : tables_fault found (take i ts) ≡ None
  pub holds : HoldsAll p found
  pub fault : told → tables_fault (content_of old folder) (drop i ts) ≡ tables_fault (content_of old folder) ts
  pub stays : new ≡ old
  pub counts : before ≤ now

-- none
starts : (p : Package) (content : Content) → HoldsAll p (λ _. None) → HoldsAll p (without content tables)
unfolding listed
starts p content h = elim [ known.Component ↦ h known.Component | other ↦ h other ]

pub loaded_none : (told : Type 0) (old : Files) (before : ℕ) (folder : Name) (ts : List Table) (p : Package) → ts ≡ tables → HoldsAll p (λ _. None) → LoadedSoFar told old old before before folder ts 0 p
loaded_none told old before folder ts p is h = record {
  found = without (content_of old folder) ts;
  same = λ _. refl;
  right = refl;
  holds = subst (λ (us : List Table). HoldsAll p (without (content_of old folder) us)) (sym is) (starts p (content_of old folder) h);
  fault = λ _. refl;
  stays = refl;
  counts = omega arith;
}

module _ (told : Type 0) (old mid : Files) (before m : ℕ) (folder : Name) (ts : List Table) (i : ℕ) (p : Package) (t : Table) (next_table : drop i ts ≡ t ∷ drop (i + 1) ts) (so : LoadedSoFar told old mid before m folder ts i p) where
  abbrev rest : List Table
  rest = drop (i + 1) ts

  abbrev content : Content
  content = content_of old folder

  here : tables_fault content (drop i ts) ≡ table_fault t (content t.name) or_else tables_fault content rest
  here = ap (tables_fault content) next_table

  whole : ts ≡ take i ts ++ t ∷ rest
  whole = sym (take-append-drop i ts) ∙ ap (λ (us : List Table). take i ts ++ us) next_table

  -- one table more
  pub loaded_more : are_apart ts ≡ true → take (i + 1) ts ≡ take i ts ++ t ∷ [] → (new : Files) (n : ℕ) (q : Package) → new ≡ mid → m ≤ n → IsPut told (content_of mid folder) t p q → LoadedSoFar told old new before n folder ts (i + 1) q
  loaded_more apart done new n q same up put =
      let split : are_apart (take i ts ++ t ∷ rest) ≡ true = ap are_apart (sym whole) ∙ apart in
      let alone : is_named rest t.name ≡ false = is_off (is_named rest t.name) (front (not (is_named rest t.name)) (are_apart rest) (apart_behind (take i ts) (t ∷ rest) split)) in
      let there : told → put.found ≡ content t.name = λ h. put.same h ∙ ap (λ (f : Files). content_of f folder t.name) so.stays in
      record {
        found = with_file so.found t.name put.found;
        same = λ h. λ j name. same_more so.found t put.found content rest (so.same h ∙ ap (without content) next_table) (there h) alone name j;
        right = ap (tables_fault (with_file so.found t.name put.found)) done ∙ right_more so.found t put.found (take i ts) rest split so.right put.right;
        holds = put.holds so.found so.holds;
        fault = λ h. sym (ap (λ (f : Option Fault). f or_else tables_fault content rest) (ap (table_fault t) (sym (there h)) ∙ put.right)) ∙ sym here ∙ so.fault h;
        stays = same ∙ so.stays;
        counts = omega (arith, so.counts, up);
      }

  -- a table that isn't loaded
  pub loaded_no_more : (n : ℕ) (e : LoadError) → told → Fails (Rose m n) (table_fault t (content_of mid folder t.name)) e → Fails (Rose before n) (tables_fault content ts) e
  loaded_no_more n e h fails =
      passed_on (Rose m n) (Rose before n) (rose_since before m n so.counts) (table_fault t (content_of mid folder t.name)) (tables_fault content ts)
      (λ f some. sym (so.fault h) ∙ here ∙ ap (λ (o : Option Fault). o or_else tables_fault content rest) (ap (λ (fs : Files). table_fault t (content_of fs folder t.name)) (sym so.stays) ∙ some)) e fails

-- all tables
pub loaded_all : (told : Type 0) (old new : Files) (before n : ℕ) (folder : Name) (ts : List Table) (i : ℕ) (p : Package) → ts ≡ tables → i ≡ length ts → LoadedSoFar told old new before n folder ts i p → AreLoaded told (content_of old folder) p
loaded_all told old new before n folder ts i p is all so =
    let none : drop i ts ≡ [] = ap (λ k. drop k ts) all ∙ drop-length ts in
    record {
      found = so.found;
      same = λ h. so.same h ∙ ap (without (content_of old folder)) none;
      right = subst (λ (us : List Table). tables_fault so.found us ≡ None) (ap (λ k. take k ts) all ∙ take-length ts ∙ is) so.right;
      holds = so.holds;
    }

-- the tables of the list, as the program has it
abbrev pub table_in : InCode → Table
table_in t = table_of (listed_as t)

pub tables_are : (items : List InCode) → map listed_as items ≡ listed → map table_in items ≡ tables
tables_are items is = two items ∙ ap (map table_of) is
  where
    two : (xs : List InCode) → map table_in xs ≡ map table_of (map listed_as xs)
    two [] = refl
    two (x ∷ xs) = ap (λ (us : List Table). table_of (listed_as x) ∷ us) (two xs)

pub on_ok : {X E : Type 0} {A B : Type 0} (r : Result X E) → OnOk r A → (A → B) → OnOk r B
on_ok (Ok x) a f = f a
on_ok (Err e) a f = tt

-- ---- refused tables

abbrev pub AreOther : List Listed → Type 0
AreOther [] = Unit {0}
AreOther (l ∷ ls) = IsOther l × AreOther ls

others : AreOther listed
unfolding listed
others = (elim [ known.Component ↦ refl | other ↦ refl ], (elim [ known.Component ↦ refl | other ↦ refl ], (elim [ known.Component ↦ refl | other ↦ refl ], (elim [ known.Component ↦ refl | other ↦ refl ], (tt, (tt, (tt, (tt, (tt, (tt, (tt, (elim [ known.Component ↦ refl | other ↦ refl ], (tt, (tt, (tt, (elim [ known.Component ↦ refl | other ↦ refl ], (elim [ known.Component ↦ refl | other ↦ refl ], (tt, (elim [ known.Component ↦ refl | other ↦ refl ], (tt, (elim [ known.Component ↦ refl | other ↦ refl ], (elim [ known.Component ↦ refl | other ↦ refl ], (elim [ known.Component ↦ refl | other ↦ refl ], (elim [ known.Component ↦ refl | other ↦ refl ], (tt, (elim [ known.Component ↦ refl | other ↦ refl ], (elim [ known.Component ↦ refl | other ↦ refl ], (elim [ known.Component ↦ refl | other ↦ refl ], (elim [ known.Component ↦ refl | other ↦ refl ], (elim [ known.Component ↦ refl | other ↦ refl ], (elim [ known.Component ↦ refl | other ↦ refl ], (tt, (elim [ known.Component ↦ refl | other ↦ refl ], (tt, (tt, (elim [ known.Component ↦ refl | other ↦ refl ], (tt, (elim [ known.Component ↦ refl | other ↦ refl ], (elim [ known.Component ↦ refl | other ↦ refl ], (elim [ known.Component ↦ refl | other ↦ refl ], (tt, (elim [ known.Component ↦ refl | other ↦ refl ], (tt, (elim [ known.Component ↦ refl | other ↦ refl ], (tt, tt)))))))))))))))))))))))))))))))))))))))))))))

other_at : (ls : List Listed) → AreOther ls → (i : ℕ) (d : Listed) → i < length ls → IsOther (get_or ls i d)
other_at [] are i d lt = absurd (omega arith)
other_at (l ∷ ls) are zero d lt = are.0
other_at (l ∷ ls) are (suc i) d lt = other_at ls are.1 i d (omega arith)

at_map : (items : List InCode) (i : ℕ) (d : InCode) → i < length items → get_or (map listed_as items) i (listed_as d) ≡ listed_as (get_or items i d)
at_map [] i d lt = absurd (omega arith)
at_map (x ∷ xs) zero d lt = refl
at_map (x ∷ xs) (suc i) d lt = at_map xs i d (omega arith)

pub is_other : (items : List InCode) → map listed_as items ≡ listed → (i : ℕ) (d : InCode) → i < length items → IsOther (listed_as (get_or items i d))
is_other items is i d lt =
    subst IsOther (at_map items i d lt)
    (other_at (map listed_as items) (subst AreOther (sym is) others) i (listed_as d) (let long = length-map items listed_as in omega (arith, long, lt)))

-- its file holds none of the rows of known tables
pub refused_holds : (p : Package) (content : Content) (name : Name) (file : Option (List ℕ)) → ((k : Known) → bytes_eq (layout_of k).name name ≡ false) → HoldsAll p content → HoldsAll p (with_file content name file)
refused_holds p content name file other h = elim [
  | known.Component ↦ h known.Component ∙ ap (λ b. keyed text_key component_row (table_rows table.component (cond b file (content table.component.name)))) (sym (other known.Component))
  | known.Condition ↦ h known.Condition ∙ ap (λ b. keyed text_number_key condition_row (table_rows table.condition (cond b file (content table.condition.name)))) (sym (other known.Condition))
  | known.CreateFolder ↦ h known.CreateFolder ∙ ap (λ b. keyed texts_key create_folder_row (table_rows table.create_folder (cond b file (content table.create_folder.name)))) (sym (other known.CreateFolder))
  | known.CustomAction ↦ h known.CustomAction ∙ ap (λ b. keyed text_key custom_action_row (table_rows table.custom_action (cond b file (content table.custom_action.name)))) (sym (other known.CustomAction))
  | known.Directory ↦ h known.Directory ∙ ap (λ b. keyed text_key directory_row (table_rows table.directory (cond b file (content table.directory.name)))) (sym (other known.Directory))
  | known.DuplicateFile ↦ h known.DuplicateFile ∙ ap (λ b. keyed text_key duplicate_file_row (table_rows table.duplicate_file (cond b file (content table.duplicate_file.name)))) (sym (other known.DuplicateFile))
  | known.Environment ↦ h known.Environment ∙ ap (λ b. keyed text_key environment_row (table_rows table.environment (cond b file (content table.environment.name)))) (sym (other known.Environment))
  | known.Feature ↦ h known.Feature ∙ ap (λ b. keyed text_key feature_row (table_rows table.feature (cond b file (content table.feature.name)))) (sym (other known.Feature))
  | known.FeatureComponents ↦ h known.FeatureComponents ∙ ap (λ b. keyed texts_key feature_components_row (table_rows table.feature_components (cond b file (content table.feature_components.name)))) (sym (other known.FeatureComponents))
  | known.File ↦ h known.File ∙ ap (λ b. keyed text_key file_row (table_rows table.file (cond b file (content table.file.name)))) (sym (other known.File))
  | known.InstallExecuteSequence ↦ h known.InstallExecuteSequence ∙ ap (λ b. keyed text_key install_execute_sequence_row (table_rows table.install_execute_sequence (cond b file (content table.install_execute_sequence.name)))) (sym (other known.InstallExecuteSequence))
  | known.LaunchCondition ↦ h known.LaunchCondition ∙ ap (λ b. keyed text_key launch_condition_row (table_rows table.launch_condition (cond b file (content table.launch_condition.name)))) (sym (other known.LaunchCondition))
  | known.MsiFileHash ↦ h known.MsiFileHash ∙ ap (λ b. keyed text_key msi_file_hash_row (table_rows table.msi_file_hash (cond b file (content table.msi_file_hash.name)))) (sym (other known.MsiFileHash))
  | known.Property ↦ h known.Property ∙ ap (λ b. keyed text_key property_row (table_rows table.property (cond b file (content table.property.name)))) (sym (other known.Property))
  | known.Registry ↦ h known.Registry ∙ ap (λ b. keyed text_key registry_row (table_rows table.registry (cond b file (content table.registry.name)))) (sym (other known.Registry))
  | known.RemoveFile ↦ h known.RemoveFile ∙ ap (λ b. keyed text_key remove_file_row (table_rows table.remove_file (cond b file (content table.remove_file.name)))) (sym (other known.RemoveFile))
  | known.RemoveRegistry ↦ h known.RemoveRegistry ∙ ap (λ b. keyed text_key remove_registry_row (table_rows table.remove_registry (cond b file (content table.remove_registry.name)))) (sym (other known.RemoveRegistry))
  | known.Shortcut ↦ h known.Shortcut ∙ ap (λ b. keyed text_key shortcut_row (table_rows table.shortcut (cond b file (content table.shortcut.name)))) (sym (other known.Shortcut))
  | known.SummaryInformation ↦ h known.SummaryInformation ∙ ap (λ b. keyed number_key summary_information_row (table_rows table.summary_information (cond b file (content table.summary_information.name)))) (sym (other known.SummaryInformation))
  | known.Upgrade ↦ h known.Upgrade ∙ ap (λ b. keyed upgrade_key upgrade_row (table_rows table.upgrade (cond b file (content table.upgrade.name)))) (sym (other known.Upgrade))
]

-- ---- what reading its bytes gives

pub read_here : {K R X : Type 0} (key : Row → K) (value : Row → R) (entries : List (K × R)) (told : Type 0) (file : Option (List ℕ)) (t : Table) (found : Option (List ℕ)) (r : Result X LoadError) → (told → found ≡ file)
    → Answers ⊥ (table_fault t found) (λ (x : X). entries ≡ keyed key value (table_rows t found)) r → OnOk r (AreRead key value told file t entries)
read_here key value entries told file t found (Ok x) same answers = record { found = found; same = same; right = answers.0; are = answers.1 }
read_here key value entries told file t found (Err e) same answers = tt

pub fault_read : {X : Type 0} (P : X → Type 0) (failed told : Type 0) (file : Option (List ℕ)) (t : Table) (found : Option (List ℕ)) (r : Result X LoadError) → (told → found ≡ file) → Answers ⊥ (table_fault t found) P r → told → IfErr r (Fails failed (table_fault t file))
fault_read P failed told file t found (Ok x) same answers so = tt
fault_read P failed told file t found (Err e) same answers so = subst (λ (o : Option (List ℕ)). Fails failed (table_fault t o) e) (same so) (passed_on ⊥ failed (λ x. absurd x) _ _ (λ f some. some) e answers)
