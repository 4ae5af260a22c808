-- What a row by itself asks for, by what was looked up.
use Rattle.std.proofs.Common.{◌≡◌, ◌≤◌, ◌<◌, ◌+◌, [], ◌∷◌, ◌++◌, length, take, get_or, length-append, ℕ, Bool, Bor, true, false, not, cond, List, map, Option, Some, None, refl, sym, ap, subst, ◌∙◌, arith}
use Rattle.std.specs.Prelude.{option_map, option_and_then, is_some, is_none, unwrap_or, codes, All, Result, Ok, Err, IfOk}
use Rattle.std.specs.Option.{option_map_or, option_copied}
use Rattle.std.specs.Str.{bytes_eq}
use Rattle.md5.specs.Md5.{md5}
use Rattle.mi_text.specs.Maps.{Name, Map}
use Rattle.mi_text.specs.Lookups.{Lookups}
use Rattle.mi_base.specs.declared.entry.Entry.{Entry}
use Rattle.mi_base.specs.declared.entry.Entry.TheVariants as entry
use Rattle.mi_base.specs.declared.entry.FileEntry.{FileEntry}
use Rattle.mi_base.specs.declared.entry.FileHead.{FileHead}
use Rattle.mi_base.specs.Machine.{Machine, as_file, file_at}
use Rattle.mi_base.specs.Spelling.{head_of}
use Rattle.mi_idt.specs.Fields.{number_within}
use Rattle.mi_fver.specs.declared.mode.Mode.{Mode}
use Rattle.mi_fver.specs.declared.new_file.NewFile.{NewFile}
use Rattle.mi_fver.specs.Rules.{replaces_of}
use Rattle.mi_image.specs.Items.{Items, bytes_of_file}
use Rattle.mi_schema.specs.Checks.{companion_of}
use Rattle.mi_schema.specs.Lawful.{IsLawful}
use Rattle.mi_schema.specs.RowsOf.{rows_in}
use Rattle.mi_schema.specs.TableRows.{Rows, row_of, table_value}
use Rattle.mi_schema.specs.declared.package.Package.{Package}
use Rattle.mi_schema.specs.declared.typed_rows.FileRow.{FileRow}
use Rattle.mi_schema.specs.declared.typed_rows.MsiFileHashRow.{MsiFileHashRow}
use Rattle.mi_schema.proofs.LawfulLaws.{of_tables}
use Rattle.mi_rows.proofs.ListLemmas.{map_done_item}
use Rattle.mi_schema.proofs.PackageLaws.{keys_stand, keys_apart}
use Rattle.mi_source.specs.Paths.{Files}
use Rattle.mi_source.specs.Counts as source
use Rattle.mi_volume.specs.State as volume
use Rattle.mi_volume.proofs.Moments.{then_passes, rose_before}
use Rattle.mi_image.proofs.LookLemmas.{looks_first, looks_then}
use Rattle.mi_model.specs.World.{World}
use Rattle.mi_model.specs.Texts.{Text}
use Rattle.mi_model.specs.FilePaths.{path_of_row}
use Rattle.mi_model.specs.FileVersions.{hash_bytes, has_same_hash, mode_of_row, file_there, new_file, product_language, is_called_for, is_written}
use Rattle.mi_model.specs.InstallFiles as model
use Rattle.mi_model.specs.InstallFiles.{all_placed}
use Rattle.mi_records.specs.Choices.{Choices}
use Rattle.mi_installs.specs.declared.error.InstallError.{InstallError}
use Rattle.mi_installs.specs.declared.error.InstallError.TheVariants as error
use Rattle.mi_installs.specs.declared.placed.Placed.{Placed}
use Rattle.mi_installs.specs.Deciding.{replaced_by, IsSeenOver}
use Rattle.mi_installs.specs.Leads.{is_followed}
use Rattle.mi_installs.specs.Placings.{as_placed}
use Rattle.mi_installs.specs.Reading.{Reads, Causes}
use Rattle.mi_installs.proofs.PlaceLemmas.{AreKeyed}
use Rattle.mi_installs.proofs.DecideLemmas.{key, are_keyed, all_decided, all_paths}

-- ---- answers that are Ok

pub if_ok : {A E : Type 0} (r : Result A E) (P Q : A → Type 0) → ((x : A) → P x → Q x) → IfOk r P → IfOk r Q
if_ok (Ok x) P Q then h = then x h
if_ok (Err e) P Q then h = tt

-- ---- hashes

pub bytes_there : (o : Option Entry) (f : FileEntry) → as_file o ≡ Some f → bytes_of_file o ≡ f.bytes
bytes_there (Some (entry.File g)) f e = let same : g ≡ f = cc in ap (λ (x : FileEntry). x.bytes) same
bytes_there other f e = cc

module _ (w : World) (r : FileRow) (f : FileEntry) (rows : Rows) (file : Name) (same_rows : w.given.rows ≡ rows) (same_key : r.file ≡ file) where
  abbrev stated_in : Rows → Name → Option (List ℕ)
  stated_in rs k = option_map hash_bytes (row_of (λ (h : MsiFileHashRow). h.file) rs.msi_file_hash k)

  stated_is : (o : Option (List ℕ)) → o ≡ stated_in rows file → option_map_or (bytes_eq (md5 f.bytes)) o false ≡ has_same_hash w r f
  unfolding has_same_hash
  stated_is o e = ap (λ (s : Option (List ℕ)). option_map_or (bytes_eq (md5 f.bytes)) s false)
      (e ∙ sym (ap (λ (k : Name). stated_in rows k) same_key) ∙ sym (ap (λ (rs : Rows). stated_in rs r.file) same_rows))

  pub hash_is : (stated bytes : List ℕ) → Some stated ≡ stated_in rows file → bytes ≡ f.bytes → bytes_eq (md5 bytes) stated ≡ has_same_hash w r f
  hash_is stated bytes e b = ap (λ (l : List ℕ). bytes_eq (md5 l) stated) b ∙ stated_is (Some stated) e

  pub no_hash : None ≡ stated_in rows file → false ≡ has_same_hash w r f
  no_hash e = stated_is None e

-- ---- the rules on versions

pub head_some : (o : Option FileEntry) (h : FileHead) → Some h ≡ option_map head_of o → (f : FileEntry) × (o ≡ Some f) × (h ≡ head_of f)
head_some None h e = cc
head_some (Some f) h e = (f, refl, cc)

pub head_none : (o : Option FileEntry) → None ≡ option_map head_of o → o ≡ None
head_none None e = refl
head_none (Some f) e = cc

module _ (w : World) (r : FileRow) (path : Text) (machine : Machine) (at : path_of_row w r ≡ Some path) (same : w.machine ≡ machine) where
  there_is : (o : Option FileEntry) → file_at machine path ≡ o → file_there w r ≡ o
  there_is o e = ap (option_and_then (file_at w.machine)) at ∙ ap (λ (m : Machine). file_at m path) same ∙ e

  pub replaced_is : (new : NewFile) (language : ℕ) (mode : Mode) (old : FileHead) (f : FileEntry) (hash result : Bool) → mode ≡ mode_of_row w r → file_at machine path ≡ Some f → old ≡ head_of f
      → replaces_of mode (Some old) new language hash ≡ replaces_of mode (Some old) new language (has_same_hash w r f) → result ≡ replaces_of mode (Some old) new language hash → result ≡ replaced_by w r new language
  replaced_is new language mode old f hash result modes file heads hashes made =
      made ∙ hashes
      ∙ ap (λ (m : Mode). replaces_of m (Some old) new language (has_same_hash w r f)) modes
      ∙ ap (λ (h : FileHead). replaces_of (mode_of_row w r) (Some h) new language (has_same_hash w r f)) heads
      ∙ sym (ap (λ (o : Option FileEntry). replaces_of (mode_of_row w r) (option_map head_of o) new language (option_map_or (has_same_hash w r) o false)) (there_is (Some f) file))

  pub absent_is : (new : NewFile) (language : ℕ) (mode : Mode) (result : Bool) → mode ≡ mode_of_row w r → file_at machine path ≡ None → result ≡ replaces_of mode None new language false → result ≡ replaced_by w r new language
  absent_is new language mode result modes file made =
      made
      ∙ ap (λ (m : Mode). replaces_of m None new language false) modes
      ∙ sym (ap (λ (o : Option FileEntry). replaces_of (mode_of_row w r) (option_map head_of o) new language (option_map_or (has_same_hash w r) o false)) (there_is None file))

  is_none_of : (o : Option FileEntry) → is_none (option_map head_of o) ≡ is_none o
  is_none_of None = refl
  is_none_of (Some f) = refl

  pub companion_is : (o : Option Name) → is_some o ≡ true → o ≡ companion_of r.version → (found : Option FileHead) → found ≡ option_map head_of (file_at machine path) → is_none found ≡ is_called_for w r
  companion_is o some is found e =
      ap is_none e ∙ is_none_of (file_at machine path) ∙ sym (ap is_none (there_is (file_at machine path) refl))
      ∙ sym (ap (λ (b : Bool). cond b (is_none (file_there w r)) (replaced_by w r (new_file r) (product_language w))) (sym (ap is_some is) ∙ some))

  pub brought_is : None ≡ companion_of r.version → (result : Bool) → result ≡ replaced_by w r (new_file r) (product_language w) → result ≡ is_called_for w r
  brought_is is result e = e ∙ ap (λ (o : Option Name). cond (is_some o) (is_none (file_there w r)) (replaced_by w r (new_file r) (product_language w))) is

pub copied_none : {A : Type 0} (o : Option (Bor A)) → is_none (option_copied o) ≡ is_none o
copied_none None = refl
copied_none (Some b) = refl

pub none_of : {A : Type 0} (o : Option A) (b : Bool) → is_some o ≡ not b → b ≡ is_none o
none_of None true e = refl
none_of None false e = cc
none_of (Some x) true e = cc
none_of (Some x) false e = refl

-- the language that the package states
pub language_is : (w : World) (p q : Package) (language : ℕ) → w.given.rows ≡ rows_in p → q ≡ p → language ≡ unwrap_or (number_within 65535 (table_value (rows_in q) (codes "ProductLanguage"))) 0 → language ≡ product_language w
language_is w p q language same is e =
    e ∙ ap (λ (x : Package). unwrap_or (number_within 65535 (table_value (rows_in x) (codes "ProductLanguage"))) 0) is
    ∙ sym (ap (λ (rs : Rows). unwrap_or (number_within 65535 (table_value rs (codes "ProductLanguage"))) 0) same)

-- one row more of those that are asked
pub called_more : (f : Placed → Bool) (rows : List Placed) (i : ℕ) (item : Placed) (called new : List Bool) (one : Bool) → item ≡ get_or rows i item → i < length rows → called ≡ take i (map f rows) → one ≡ f item → new ≡ called ++ one ∷ [] → new ≡ take (i + 1) (map f rows)
called_more f rows i item called new one is lt so says made =
    made ∙ ap (λ (bs : List Bool). bs ++ one ∷ []) so ∙ ap (λ (b : Bool). take i (map f rows) ++ b ∷ []) says ∙ sym (map_done_item f rows i item is lt)

pub size_more : (called new : List Bool) (one : Bool) (i : ℕ) → length called ≡ i → new ≡ called ++ one ∷ [] → length new ≡ i + 1
size_more called new one i so made = ap length made ∙ length-append called (one ∷ []) ∙ ap (λ (n : ℕ). n + 1) so

-- ---- devices that are only read

pub reads_first : (told : Type 0) (s : volume.State) (files : Files) (n : ℕ) → Reads told s s files files n n
reads_first told s files n = record { looks = λ t. looks_first s; passes = record { later = omega arith; faults = omega arith; capacity = refl }; stays = refl; counts = omega arith }

pub reads_then : (told : Type 0) (old mid new : volume.State) (f0 f1 f2 : Files) (n0 n1 n2 : ℕ) → Reads told old mid f0 f1 n0 n1 → Reads told mid new f1 f2 n1 n2 → Reads told old new f0 f2 n0 n2
reads_then told old mid new f0 f1 f2 n0 n1 n2 first second = record {
  looks = λ t. looks_then old mid new (first.looks t) (second.looks t);
  passes = then_passes old mid new first.passes second.passes;
  stays = second.stays ∙ first.stays;
  counts = omega (arith, first.counts, second.counts);
}

source_before : (a b c : ℕ) → a ≤ b → source.Rose b c → source.Rose a c
source_before a b c le rose = record { rose = λ below. omega (arith, le, rose.rose below) }

pub causes_before : {A : Type 0} (told : Type 0) (old mid new : volume.State) (f0 f1 : Files) (n0 n1 n2 : ℕ) → Reads told old mid f0 f1 n0 n1 → (r : Result A InstallError) → Causes (source.Rose n1 n2) (volume.Rose mid new) r → Causes (source.Rose n0 n2) (volume.Rose old new) r
causes_before told old mid new f0 f1 n0 n1 n2 reads (Ok x) c = tt
causes_before told old mid new f0 f1 n0 n1 n2 reads (Err error.NoMemory) c = tt
causes_before told old mid new f0 f1 n0 n1 n2 reads (Err (error.Fault f)) c = c
causes_before told old mid new f0 f1 n0 n1 n2 reads (Err error.Source) c = source_before n0 n1 n2 reads.counts c
causes_before told old mid new f0 f1 n0 n1 n2 reads (Err error.Volume) c = rose_before old mid new reads.passes c

-- the world is seen over the image after reads as before
pub seen_later : (L : Lookups) (c : Choices) (p : Package) (image : Items) (w : World) (told : Type 0) (old new : volume.State) (f0 f1 : Files) (n0 n1 : ℕ) → Reads told old new f0 f1 n0 n1 → told
    → IsSeenOver L c p old.held f0 image w → IsSeenOver L c p new.held f1 image w
seen_later L c p image w told old new f0 f1 n0 n1 reads t seen =
    subst (λ (h : Map (List ℕ)). IsSeenOver L c p h f1 image w) (sym (reads.looks t).stays.held) (subst (λ (f : Files). IsSeenOver L c p old.held f image w) (sym reads.stays) seen)

-- ---- the whole decision

files_keyed : (p : Package) → IsLawful p → AreKeyed key (rows_in p).file
unfolding rows_in
files_keyed p lawful =
    let l = of_tables p lawful in
    are_keyed p.file.entries (keys_stand p l.content l.right_tables l.is.rows).file (keys_apart p l.content l.right_tables l.is.rows).file

module _ (p : Package) (lawful : IsLawful p) (w : World) (same_rows : w.given.rows ≡ rows_in p) (rows : List Placed) (all : all_placed w ≡ Ok (map as_placed rows)) where
  keyed : AreKeyed key w.given.rows.file
  keyed = subst (λ (rs : Rows). AreKeyed key rs.file) (sym same_rows) (files_keyed p lawful)

  pub paths_are : All (λ (q : Placed). path_of_row w q.row.now ≡ Some q.path) rows
  paths_are = all_paths w rows keyed all

  pub decided_is : (called decided : List Bool) → called ≡ map (λ (q : Placed). is_called_for w q.row.now) rows → decided ≡ map (λ (q : Placed). is_followed (rows_in p).file rows called q.row.now.file) rows
      → decided ≡ map (λ (x : model.Placed). is_written w x.row) (map as_placed rows)
  decided_is called decided says made =
      made
      ∙ ap (λ (cs : List Bool). map (λ (q : Placed). is_followed (rows_in p).file rows cs q.row.now.file) rows) says
      ∙ sym (ap (λ (rs : Rows). map (λ (q : Placed). is_followed rs.file rows (map (λ (x : Placed). is_called_for w x.row.now) rows) q.row.now.file) rows) same_rows)
      ∙ all_decided w rows keyed all
