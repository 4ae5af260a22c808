-- The files that InstallFiles leaves, and the folders that it makes.
use Rattle.std.proofs.Common.{◌≡◌, Bool, true, false, cond, List, [], ◌∷◌, ◌++◌, map, Option, Some, None, refl, sym, ap, ◌∙◌, append_assoc}
use Rattle.std.specs.Prelude.{flat_map, ◌&&◌, ℕ, find, length, option_map, ◌==◌, Result, Ok, Err}
use Rattle.std.specs.Option.{option_or, option_map_or}
use Rattle.std.specs.FinMap.{get}
use Rattle.mi_text.specs.Maps.{same_name}
use Rattle.mi_text.specs.Fold.{folded}
use Rattle.mi_text.specs.Path.{up_to_last}
use Rattle.mi_text.proofs.MapLemmas.{from_same, same_itself}
use Rattle.mi_base.specs.declared.entry.Entry.{Entry}
use Rattle.mi_base.specs.declared.entry.Entry.TheVariants as entry
use Rattle.mi_base.specs.declared.entry.FileEntry.{FileEntry}
use Rattle.mi_base.specs.Names.{file_name, folder_name}
use Rattle.mi_base.specs.Machine.{Machine, file_at, as_file}
use Rattle.mi_schema.specs.declared.typed_rows.FileRow.{FileRow}
use Rattle.mi_model.specs.Texts.{Text}
use Rattle.mi_base.specs.declared.answers.Fault.{Fault}
use Rattle.mi_base.specs.declared.answers.Fault.TheVariants.{SameTarget, SizeDiffers}
use Rattle.mi_model.specs.World.{World}
use Rattle.mi_changes.specs.Touches.{Touch, left_at}
use Rattle.mi_model.specs.PhaseRows.{Touches, by_rows, phase_rows}
use Rattle.mi_model_laws.specs.PhaseLaws.{IsAfter, in_turn, first_named}
use Rattle.mi_model.specs.Refusals.{◌>>=◌, unless}
use Rattle.mi_model.specs.FilePaths.{source_path}
use Rattle.mi_model.specs.FileVersions.{is_written}
use Rattle.mi_model.specs.Parents.{folders_down_to}
use Rattle.mi_model.specs.InstallFiles.{Placed, all_placed, have_one_path, same_target, installed_file, file_with_parents, source_bytes, right_file, right_size, stated_size, installed_row, installed_rows, install_files}
use Rattle.mi_model_laws.specs.FileLaws.{writer_of, brought_by, files_after_install, folders_of_file}
use Rattle.mi_model_laws.proofs.RowLemmas.{from_ok, bound, Unrefused, Acts, get-in_turn, made_in_turn}
use Rattle.mi_model_laws.proofs.ParentLemmas.{or_nothing, IsNoFolder, set_in_folder, folders_of_set}

-- ---- what a row brings

abbrev pub has_path : Text → Placed → Bool
has_path path p = same_name (folded path) (folded p.path)

-- what a row leaves where this stood
abbrev pub over : World → Text → Placed → Option Entry → Option Entry
over w path p old = cond (has_path path p && is_written w p.row) (option_map entry.File (brought_by w p)) old

pub and_false : (a : Bool) {X : Type 0} (x y : X) → cond (a && false) x y ≡ y
and_false true x y = refl
and_false false x y = refl

pub and_true : (a : Bool) {X : Type 0} (x y : X) → cond (a && true) x y ≡ cond a x y
and_true true x y = refl
and_true false x y = refl

-- bytes of the source that are right are the source's
right_bytes : (r : FileRow) (bytes found : List ℕ) → right_size r bytes ≡ Ok found → found ≡ bytes
right_bytes r bytes found = elim (length bytes == stated_size r) as (λ b. cond b (Ok bytes) (Err (SizeDiffers r.file (stated_size r) (length bytes))) ≡ Ok found → found ≡ bytes) [
  | true ↦ λ e. sym (from_ok bytes found e)
  | false ↦ λ e. cc
]

-- the source has these bytes
source_has : (w : World) (p : Placed) (bytes : List ℕ) → source_bytes w p.row ≡ Ok bytes → brought_by w p ≡ Some (installed_file w p bytes)
unfolding source_bytes
source_has w p bytes e = elim (get w.given.files (source_path w p.row)) as (λ o. right_file p.row o ≡ Ok bytes → option_map (installed_file w p) o ≡ Some (installed_file w p bytes)) [
  | None ↦ λ e. cc
  | Some found ↦ λ e. ap (λ (b : List ℕ). Some (installed_file w p b)) (sym (right_bytes p.row found bytes e))
] e

file_is_no_folder : (path : Text) → IsNoFolder (file_name path)
unfolding file_name folder_name
file_is_no_folder path folder = refl

-- files have one name where their paths fold alike
pub same_file_name : (a b : Text) → same_name (file_name a) (file_name b) ≡ same_name (folded a) (folded b)
unfolding file_name
same_file_name a b = refl

-- what a written file leaves at the name of a file
pub written_file : (path : Text) (f : FileEntry) (old : Option Entry) → left_at (file_name path) (file_with_parents f) old ≡ cond (same_name (folded path) (folded f.shown)) (Some (entry.File f)) old
unfolding file_with_parents
written_file path f old =
    set_in_folder (file_name path) (file_name f.shown) (λ o. Some (entry.File f)) (up_to_last f.shown) old (file_is_no_folder path)
    ∙ ap (λ (b : Bool). cond b (Some (entry.File f)) old) (same_file_name path f.shown)

-- and at the name of a folder
pub folders_of_written : (folder : Text) (f : FileEntry) (old : Option Entry)
    → left_at (folder_name folder) (file_with_parents f) old ≡ option_or old (first_named (folder_name folder) (map entry.Folder (folders_down_to (up_to_last f.shown))))
unfolding file_with_parents file_name folder_name
folders_of_written folder f old = folders_of_set (folder_name folder) (file_name f.shown) (λ o. Some (entry.File f)) (up_to_last f.shown) old refl

-- a row that is written, with the bytes of the source, or one that isn't
abbrev pub written : World → Placed → List ℕ → Result (List (Touch Entry)) Fault
written w p bytes = Ok (file_with_parents (installed_file w p bytes))

row_acts : (w : World) (path : Text) (p : Placed) → Acts (file_name path) (installed_row w p) (over w path p)
row_acts w path p m ts e old =
    elim (is_written w p.row) as (λ (b : Bool). cond b (source_bytes w p.row >>= written w p) (Ok []) ≡ Ok ts → left_at (file_name path) ts old ≡ cond (has_path path p && b) (option_map entry.File (brought_by w p)) old) [
      | true ↦ λ e. let read = bound (source_bytes w p.row) (written w p) ts e in
          ap (λ (t : List (Touch Entry)). left_at (file_name path) t old) (sym (from_ok (file_with_parents (installed_file w p read.value)) ts read.rest))
          ∙ written_file path (installed_file w p read.value) old
          ∙ ap (λ (o : Option FileEntry). cond (has_path path p) (option_map entry.File o) old) (sym (source_has w p read.value read.is))
          ∙ sym (and_true (has_path path p) _ old)
      | false ↦ λ e. ap (λ (t : List (Touch Entry)). left_at (file_name path) t old) (sym (from_ok [] ts e)) ∙ sym (and_false (has_path path p) _ old)
    ] e

row_folders : (w : World) (folder : Text) (p : Placed) → Acts (folder_name folder) (installed_row w p) (λ old. option_or old (first_named (folder_name folder) (folders_of_file w p)))
row_folders w folder p m ts e old =
    elim (is_written w p.row) as (λ (b : Bool). cond b (source_bytes w p.row >>= written w p) (Ok []) ≡ Ok ts
    → left_at (folder_name folder) ts old ≡ option_or old (first_named (folder_name folder) (cond b (map entry.Folder (folders_down_to (up_to_last p.path))) []))) [
      | true ↦ λ e. let read = bound (source_bytes w p.row) (written w p) ts e in
          ap (λ (t : List (Touch Entry)). left_at (folder_name folder) t old) (sym (from_ok (file_with_parents (installed_file w p read.value)) ts read.rest))
          ∙ folders_of_written folder (installed_file w p read.value) old
      | false ↦ λ e. ap (λ (t : List (Touch Entry)). left_at (folder_name folder) t old) (sym (from_ok [] ts e)) ∙ sym (or_nothing old)
    ] e

-- ---- no two rows have one path

-- none of the rows has this path
abbrev pub NoneHas : Text → List Placed → Type 0
NoneHas path [] = Unit {0}
NoneHas path (p ∷ ps) = (has_path path p ≡ false) × NoneHas path ps

abbrev pub AreApart : List Placed → Type 0
AreApart [] = Unit {0}
AreApart (p ∷ ps) = NoneHas p.path ps × AreApart ps

nothing_over : (w : World) (path : Text) (rows : List Placed) (old : Option Entry) → NoneHas path rows → in_turn (over w path) rows old ≡ old
nothing_over w path [] old n = refl
nothing_over w path (p ∷ ps) old n = ap (λ (b : Bool). in_turn (over w path) ps (cond (b && is_written w p.row) (option_map entry.File (brought_by w p)) old)) n.0 ∙ nothing_over w path ps old n.1

-- what one row of a path leaves, or nothing
abbrev pub by_writer : World → Option Placed → Option Entry → Option Entry
by_writer w None old = old
by_writer w (Some p) old = option_map entry.File (brought_by w p)

none_finds : (w : World) (path : Text) (ps : List Placed) → NoneHas path ps → writer_of w ps path ≡ None
none_finds w path [] n = refl
none_finds w path (q ∷ qs) n = ap (λ (b : Bool). cond (b && is_written w q.row) (Some q) (writer_of w qs path)) n.0 ∙ none_finds w path qs n.1

moved : (a b : Text) (ps : List Placed) → folded a ≡ folded b → NoneHas b ps → NoneHas a ps
moved a b [] e n = tt
moved a b (q ∷ qs) e n = (ap (λ (t : List ℕ). same_name t (folded q.path)) e ∙ n.0, moved a b qs e n.1)

decided : (w : World) (p : Placed) (found : Option Placed) (old : Option Entry) (b : Bool) → found ≡ None → cond b (option_map entry.File (brought_by w p)) old ≡ by_writer w (cond b (Some p) found) old
decided w p found old true e = refl
decided w p found old false e = ap (λ o. by_writer w o old) (sym e)

pub one_writes : (w : World) (path : Text) (rows : List Placed) (old : Option Entry) → AreApart rows → in_turn (over w path) rows old ≡ by_writer w (writer_of w rows path) old
one_writes w path [] old a = refl
one_writes w path (p ∷ ps) old a =
    let rest = one_writes w path ps old a.1 in
    elim (has_path path p) as (λ b. has_path path p ≡ b → in_turn (over w path) ps (cond (b && is_written w p.row) (option_map entry.File (brought_by w p)) old) ≡ by_writer w (cond (b && is_written w p.row) (Some p) (writer_of w ps path)) old) [
      | true ↦ λ is. let n = moved path p.path ps (from_same _ _ is) a.0 in nothing_over w path ps _ n ∙ decided w p (writer_of w ps path) old (is_written w p.row) (none_finds w path ps n)
      | false ↦ λ is. rest
    ] refl

-- ---- where no two rows have one target, the rows are apart

not_found : (a : Placed) (front back : List Placed) (p : Placed) → find (have_one_path p) (front ++ a ∷ back) ≡ None → have_one_path p a ≡ false
not_found a [] back p e = at_head (have_one_path p a) e
  where
    at_head : (b : Bool) → cond b (Some a) (find (have_one_path p) back) ≡ None → b ≡ false
    at_head true e = cc
    at_head false e = refl
not_found a (q ∷ front) back p e = past (have_one_path p q) (not_found a front back p) e
  where
    past : (b : Bool) → (find (have_one_path p) (front ++ a ∷ back) ≡ None → have_one_path p a ≡ false) → cond b (Some q) (find (have_one_path p) (front ++ a ∷ back)) ≡ None → have_one_path p a ≡ false
    past true rest e = cc
    past false rest e = rest e

not_named : (p : Placed) (found : Option Placed) (rest : Option Fault) → option_or (option_map (λ (a : Placed). SameTarget a.row.file p.row.file) found) rest ≡ None → (found ≡ None) × (rest ≡ None)
not_named p None rest e = (refl, e)
not_named p (Some a) rest e = cc

turned : (a b : List ℕ) → same_name b a ≡ false → same_name a b ≡ false
turned a b e = elim (same_name a b) as (λ t. same_name a b ≡ t → t ≡ false) [
  | true ↦ λ is. absurd_same a b (from_same a b is) e
  | false ↦ λ is. refl
] refl
  where
    absurd_same : (a b : List ℕ) → a ≡ b → same_name b a ≡ false → true ≡ false
    absurd_same a b is e = sym (same_itself b) ∙ ap (same_name b) (sym is) ∙ e

-- a row before the others has a path of its own
none_after : (a : Placed) (front back rows : List Placed) → same_target (front ++ a ∷ back) rows ≡ None → NoneHas a.path rows
none_after a front back [] e = tt
none_after a front back (p ∷ rows) e =
    let parts = not_named p (find (have_one_path p) (front ++ a ∷ back)) _ e in
    (turned (folded a.path) (folded p.path) (not_found a front back p parts.0), none_after a front (back ++ p ∷ []) rows (ap (λ (l : List Placed). same_target l rows) (sym (append_assoc front (a ∷ back) (p ∷ []))) ∙ parts.1))

pub apart : (before rows : List Placed) → same_target before rows ≡ None → AreApart rows
apart before [] e = tt
apart before (p ∷ rows) e =
    let parts = not_named p (find (have_one_path p) before) _ e in
    (none_after p before [] rows parts.1, apart (before ++ p ∷ []) rows parts.1)

-- ---- the laws

-- rows that aren't refused
pub accepted : (w : World) (rows : List Placed) (touches : List Touches) → all_placed w ≡ Ok rows → phase_rows install_files w ≡ Ok touches
    → Unrefused (same_target [] rows) (by_rows w.machine (map (installed_row w) rows)) touches
unfolding install_files
accepted w rows touches e is =
    by_fault (same_target [] rows) (ap (λ r. (r >>= installed_rows w) >>= by_rows w.machine) (sym e) ∙ is)
  where
    by_fault : (fault : Option Fault) → (unless fault (Ok (map (installed_row w) rows)) >>= by_rows w.machine) ≡ Ok touches → Unrefused fault (by_rows w.machine (map (installed_row w) rows)) touches
    by_fault None e = record { none = refl; is = e }
    by_fault (Some fault) e = cc

file_of_writer : (w : World) (path : Text) (found : Option Placed) → as_file (by_writer w found (get w.machine (file_name path))) ≡ option_map_or (brought_by w) found (file_at w.machine path)
file_of_writer w path None = refl
file_of_writer w path (Some p) = of_file (brought_by w p)
  where
    of_file : (o : Option FileEntry) → as_file (option_map entry.File o) ≡ o
    of_file None = refl
    of_file (Some f) = refl

pub files_are_installed : (w : World) (m : Machine) (rows : List Placed) → all_placed w ≡ Ok rows → IsAfter install_files w m → (path : Text) → file_at m path ≡ files_after_install w rows path
files_are_installed w m rows e after path =
    let fine = accepted w rows after.rows e after.touched in
    ap (λ n. file_at n path) after.machine
    ∙ ap as_file (get-in_turn (file_name path) (installed_row w) (over w path) rows w.machine after.rows (row_acts w path) fine.is
    ∙ one_writes w path rows (get w.machine (file_name path)) (apart [] rows fine.none))
    ∙ file_of_writer w path (writer_of w rows path)

pub their_folders_are_made : (w : World) (m : Machine) (rows : List Placed) → all_placed w ≡ Ok rows → IsAfter install_files w m → (folder : Text) →
    get m (folder_name folder) ≡ option_or (get w.machine (folder_name folder)) (first_named (folder_name folder) (flat_map (folders_of_file w) rows))
their_folders_are_made w m rows e after folder =
    let q = folder_name folder in
    let fine = accepted w rows after.rows e after.touched in
    ap (λ n. get n q) after.machine
    ∙ get-in_turn q (installed_row w) (λ p old. option_or old (first_named q (folders_of_file w p))) rows w.machine after.rows (row_folders w folder) fine.is
    ∙ made_in_turn q (folders_of_file w) rows (get w.machine q)
