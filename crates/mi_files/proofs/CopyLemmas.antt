-- Copies of files.
use Rattle.std.proofs.Common.{◌≡◌, ◌≢◌, ℕ, Bool, true, false, cond, not, ◌&&◌, List, [], ◌∷◌, ◌++◌, map, Bor, Option, Some, None, refl, sym, ap, ◌∙◌, subst, inl, inr, ◌↔◌}
use Rattle.std.specs.Prelude.{filter, Ok, codes, option_map, is_some, nat_lt}
use Rattle.std.specs.Option.{option_copied}
use Rattle.std.specs.FinMap.{get}
use Rattle.std.proofs.lemmas.Bool.{cases_Bool}
use Rattle.mi_text.specs.Fold.{folded}
use Rattle.mi_text.specs.Lookups.{Lookups}
use Rattle.mi_text.specs.Maps.{Map, Name, same_name}
use Rattle.mi_text.specs.Path.{is_path, is_file_path, up_to_last, parent_of}
use Rattle.mi_text.proofs.MapLemmas.{from_same, same_itself}
use Rattle.mi_text.proofs.PathLemmas.{file_is, file_is_path, parent_open, only_folder}
use Rattle.mi_base.specs.declared.entry.FileHead.{FileHead}
use Rattle.mi_base.specs.declared.entry.FileEntry.{FileEntry}
use Rattle.mi_base.specs.declared.entry.Entry.{Entry}
use Rattle.mi_base.specs.declared.entry.Entry.TheVariants as entry
use Rattle.mi_base.specs.Limits.{fits, are_few, rises}
use Rattle.mi_base.specs.Machine.{Machine, as_file, file_at}
use Rattle.mi_base.specs.Names.{file_name, folder_name}
use Rattle.mi_base.specs.Records.{with_bytes}
use Rattle.mi_base.specs.Spelling.{head_of}
use Rattle.mi_source.specs.Paths.{Files}
use Rattle.mi_changes.specs.Touches.{Touch, by_touch}
use Rattle.mi_changes.proofs.TouchLemmas.{get-by_touch}
use Rattle.mi_script.specs.Spelled.{is_file_name}
use Rattle.mi_image.specs.declared.item.Item.TheVariants.{Whole}
use Rattle.mi_image.specs.Items.{Items, bytes_of_file, entry_over, machine_over, AreRight, AreThere, is_split}
use Rattle.mi_image.specs.Overlays.{present_items}
use Rattle.mi_image.proofs.LookupLemmas.{get_over}
use Rattle.mi_schema.specs.declared.package.Package.{Package}
use Rattle.mi_schema.specs.declared.typed_rows.DuplicateFileRow.{DuplicateFileRow}
use Rattle.mi_schema.specs.RowsOf.{rows_in}
use Rattle.mi_schema.specs.TableRows.{Numbered, in_key_order, Rows as TableRows}
use Rattle.mi_model.specs.World.{World}
use Rattle.mi_model.specs.Asked.{comes}
use Rattle.mi_model.specs.DuplicateFiles.{copy_rows, copies, copied_row, copied_file, with_path, duplicate_files}
use Rattle.mi_model.specs.FilePaths.{copy_path, original_path, right_path}
use Rattle.mi_model.specs.InstallFiles.{file_with_parents}
use Rattle.mi_model.specs.Parents.{folder_with_parents, parents_of_path}
use Rattle.mi_model.specs.Refusals.{◌>>=◌}
use Rattle.mi_model.specs.Texts.{Text}
use Rattle.mi_model_laws.proofs.ParentLemmas.{IsNoFolder, folders_elsewhere}
use Rattle.mi_steps.specs.declared.plan.Plan.{Plan}
use Rattle.mi_steps.specs.Follows.{put_touch}
use Rattle.mi_steps.specs.Makes.{Makes, plan_machine, duplicate_touch}
use Rattle.mi_steps.proofs.FollowLemmas.{joined}
use Rattle.mi_records.specs.Choices.{Choices, IsAsked}
use Rattle.mi_records.specs.Order.{as_numbered}
use Rattle.mi_records.proofs.PhaseLemmas.{map-over}
use Rattle.mi_files.specs.Copies.{copied_head, copy_of_file, copied_to}
use Rattle.mi_files.proofs.FolderLemmas.{taken_seen}

-- ---- the rows

module _ (L : Lookups) (c : Choices) (p : Package) (w : World) (asked : IsAsked L c p w) where
  pub coming_are : (rows : List (ℕ × Bor DuplicateFileRow)) → map as_numbered rows ≡ in_key_order (λ (r : DuplicateFileRow). r.file_key) (rows_in p).duplicate_file → map as_numbered (filter (λ r. c.coming r.1.now.component) rows) ≡ copy_rows (comes w) w
  coming_are rows is =
      sym (taken_seen (λ (r : DuplicateFileRow). comes w r.component) (λ (r : DuplicateFileRow). c.coming r.component) (λ r. asked.coming r.component) rows)
      ∙ ap (λ (ns : List (Numbered DuplicateFileRow)). filter (λ (r : Numbered DuplicateFileRow). comes w r.row.component) ns) (is ∙ ap (λ (rs : TableRows). in_key_order (λ (r : DuplicateFileRow). r.file_key) rs.duplicate_file) (sym asked.rows))

pub copy_effect : (w : World) (rows : List (ℕ × Bor DuplicateFileRow)) → map as_numbered rows ≡ copy_rows (comes w) w → duplicate_files w ≡ Ok (map (λ r. copied_row w (as_numbered r)) rows)
unfolding duplicate_files
copy_effect w rows is = ap (λ (ns : List (Numbered DuplicateFileRow)). Ok (map (copied_row w) ns)) (sym is) ∙ ap Ok (map-over (copied_row w) as_numbered rows)

-- ---- the file that stands at a name

-- an item that isn't a head is no file
pub no_file : (held files : Map (List ℕ)) (items : Items) (q : Name) (e : Entry) → AreRight items → get items q ≡ Some (Whole e) → as_file (get (machine_over held files items) q) ≡ None
no_file held files items q e right at = ap as_file (get_over held files items q ∙ ap (option_map (entry_over held files)) at) ∙ by_entry e (right q (Whole e) at).split
  where
    by_entry : (e : Entry) → is_split (Whole e) ≡ true → as_file (Some e) ≡ None
    by_entry (entry.File f) split = absurd cc
    by_entry (entry.Folder t) split = refl
    by_entry (entry.Value k v) split = refl
    by_entry (entry.Key r t) split = refl
    by_entry (entry.Shortcut s) split = refl
    by_entry (entry.Variable v) split = refl
    by_entry (entry.Client c) split = refl
    by_entry (entry.Product p) split = refl
    by_entry (entry.System p t) split = refl

pub none_at : (held files : Map (List ℕ)) (items : Items) (q : Name) → get items q ≡ None → as_file (get (machine_over held files items) q) ≡ None
none_at held files items q at = ap as_file (get_over held files items q ∙ ap (option_map (entry_over held files)) at)

pub is_there : (r : Option (Bor FileHead)) (o : Option FileEntry) → option_copied r ≡ option_map head_of o → is_some o ≡ is_some r
is_there None None is = refl
is_there None (Some f) is = absurd cc
is_there (Some h) None is = absurd cc
is_there (Some h) (Some f) is = refl

swapped : (a x b c d : Bool) → (((a && b) && c) && d) ≡ true → x ≡ true → (((x && b) && c) && d) ≡ true
swapped true x b c d e is = ap (λ t. ((t && b) && c) && d) is ∙ e
swapped false x b c d e is = cc

-- the head of a copy fits
pub copied_fits : (h : FileHead) (path : List ℕ) (moment : ℕ) → is_file_path path ≡ true → fits (entry.File (with_bytes h [])) ≡ true → fits (entry.File (with_bytes (copied_head path moment h) [])) ≡ true
unfolding fits
copied_fits h path moment is e = swapped (is_file_path h.shown) (is_file_path path) (are_few h.languages) (rises nat_lt h.languages) (nat_lt h.attributes 8) e is

-- ---- what a copy makes

of_some : {X : Type 0} (a b : X) → Some a ≡ Some b → a ≡ b
of_some a b e = cc

-- the copy of the file that stands at the name
pub copy_made : (m : Machine) (from : Name) (path : List ℕ) (moment : ℕ) (h : FileHead) → Some h ≡ option_map (copied_head path moment) (option_map head_of (as_file (get m from))) → duplicate_touch m h from ∷ [] ≡ copy_of_file path moment (as_file (get m from))
copy_made m from path moment h is = by_entry (get m from) is
  where
    by_entry : (o : Option Entry) → Some h ≡ option_map (copied_head path moment) (option_map head_of (as_file o)) → put_touch (file_name h.shown) (entry.File (with_bytes h (bytes_of_file o))) ∷ [] ≡ copy_of_file path moment (as_file o)
    by_entry None e = absurd cc
    by_entry (Some (entry.File f)) e = ap (λ (k : FileHead). put_touch (file_name k.shown) (entry.File (with_bytes k f.bytes)) ∷ []) (of_some h (copied_head path moment (head_of f)) e)
    by_entry (Some (entry.Folder t)) e = absurd cc
    by_entry (Some (entry.Value k v)) e = absurd cc
    by_entry (Some (entry.Key r t)) e = absurd cc
    by_entry (Some (entry.Shortcut s)) e = absurd cc
    by_entry (Some (entry.Variable v)) e = absurd cc
    by_entry (Some (entry.Client c)) e = absurd cc
    by_entry (Some (entry.Product p)) e = absurd cc
    by_entry (Some (entry.System p t)) e = absurd cc

pub copy_none : (path : List ℕ) (moment : ℕ) (o : Option FileEntry) → None ≡ option_map (copied_head path moment) (option_map head_of o) → [] ≡ copy_of_file path moment o
copy_none path moment None e = refl
copy_none path moment (Some f) e = absurd cc

-- ---- the folders of a copy

pub file_parent : (path : List ℕ) → is_file_path path ≡ true → parent_of path ≡ up_to_last path
file_parent path is = sym (parent_open path path_is no_end)
  where
    path_is : is_path path ≡ true
    path_is = file_is_path path (file_is path is)

    no_end : (front : List ℕ) → path ≢ front ++ 92 ∷ []
    no_end front at = let no : is_file_path path ≡ false = (only_folder path front path_is at).1 in let clash : true ≡ false = sym is ∙ no in cc

no_folder : (q : Name) → is_file_name q ≡ true → IsNoFolder q
unfolding folder_name
no_folder q is folder = elim (cases_Bool (same_name q (folder_name folder))) [
  | inl same ↦ let clash : true ≡ false = sym is ∙ ap is_file_name (from_same q (folder_name folder) same) in absurd cc
  | inr apart ↦ apart
]

-- folders that are made leave files
pub file_stays : (m n : Machine) (folder : Text) (q : Name) → is_file_name q ≡ true → n ≡ by_touch m (folder_with_parents folder) → get n q ≡ get m q
file_stays m n folder q is made = ap (λ (k : Machine). get k q) made ∙ get-by_touch m (folder_with_parents folder) q ∙ folders_elsewhere q folder (get m q) (no_folder q is)

pub named_file : (path : List ℕ) → is_file_name (file_name path) ≡ true
unfolding file_name
named_file path = refl

-- the folders, and the copy in them
pub with_folders : (held files : Map (List ℕ)) (a b c : Plan) (path folder : List ℕ) (moment : ℕ) (from : Name) → is_file_path path ≡ true → is_file_name from ≡ true → folder ≡ parent_of path
    → Makes held files a b (folder_with_parents folder) → Makes held files b c (copy_of_file path moment (as_file (get (plan_machine held files b) from)))
    → Makes held files a c (parents_of_path path ++ copy_of_file path moment (as_file (get (plan_machine held files a) from)))
with_folders held files a b c path folder moment from is named at first second =
    subst (λ (f : List ℕ). Makes held files a c (folder_with_parents f ++ copy_of_file path moment (as_file (get (plan_machine held files a) from)))) (at ∙ file_parent path is)
    (subst (λ (o : Option Entry). Makes held files a c (folder_with_parents folder ++ copy_of_file path moment (as_file o))) (file_stays (plan_machine held files a) (plan_machine held files b) folder from named first.machine)
    (joined files (plan_machine held files a) (plan_machine held files b) (plan_machine held files c) a.script b.script c.script (folder_with_parents folder) (copy_of_file path moment (as_file (get (plan_machine held files b) from))) first second))

-- ---- whether a file is copied

same_file : (a b : List ℕ) → same_name (file_name a) (file_name b) ≡ same_name (folded a) (folded b)
unfolding file_name
same_file a b = refl

pub copies_none : (w : World) (path original : List ℕ) (o : Option FileEntry) → (is_some o && not (same_name (file_name path) (file_name original))) ≡ false → [] ≡ copies w path original o
copies_none w path original None e = refl
copies_none w path original (Some f) e = by (same_name (folded path) (folded original)) (sym (ap not (same_file path original)) ∙ e)
  where
    by : (b : Bool) → not b ≡ false → [] ≡ cond b [] (file_with_parents (copied_file w path f))
    by true e = refl
    by false e = cc

pub copies_some : (w : World) (path original : List ℕ) (moment : ℕ) (o : Option FileEntry) → w.given.now ≡ moment → (is_some o && not (same_name (file_name path) (file_name original))) ≡ true → parents_of_path path ++ copy_of_file path moment o ≡ copies w path original o
unfolding file_with_parents
copies_some w path original moment None now e = cc
copies_some w path original moment (Some f) now e =
    ap (λ n. parents_of_path path ++ copy_of_file path n (Some f)) (sym now) ∙ by (same_name (folded path) (folded original)) (sym (ap not (same_file path original)) ∙ e)
  where
    by : (b : Bool) → not b ≡ true → parents_of_path path ++ copy_of_file path w.given.now (Some f) ≡ cond b [] (file_with_parents (copied_file w path f))
    by true e = cc
    by false e = refl

pub told_apart : (a b : Name) (t : Bool) → ((t ≡ true) ↔ (a ≡ b)) → not (same_name a b) ≡ not t
told_apart a b true tells = ap not (subst (λ (q : Name). same_name a q ≡ true) (tells.0 refl) (same_itself a))
told_apart a b false tells = elim (cases_Bool (same_name a b)) [
  | inl same ↦ let clash : false ≡ true = tells.1 (from_same a b same) in absurd cc
  | inr apart ↦ ap not apart
]

-- what the program judges by the image, and what follows
module _ (held : Map (List ℕ)) (files : Files) (a : Plan) (path original : List ℕ) (from : Name) (items : Items) (image : items ≡ present_items a.overlay) (named : from ≡ file_name original) where
  pub judged : (t b : Bool) → (AreThere held files items → t ≡ (is_some (as_file (get (machine_over held files items) from)) && not (same_name (file_name path) from))) → AreThere held files (present_items a.overlay) → t ≡ b
      → (is_some (file_at (plan_machine held files a) original) && not (same_name (file_name path) (file_name original))) ≡ b
  judged t b tells there is =
      let here : AreThere held files items = subst (λ (i : Items). AreThere held files i) (sym image) there in
      ap (λ (q : Name). is_some (as_file (get (plan_machine held files a) q)) && not (same_name (file_name path) q)) (sym named)
      ∙ ap (λ (i : Items). is_some (as_file (get (machine_over held files i) from)) && not (same_name (file_name path) from)) (sym image)
      ∙ sym (tells here) ∙ is

  pub copied : (b : Plan) (w : World) (moment : ℕ) → w.given.now ≡ moment → (is_some (file_at (plan_machine held files a) original) && not (same_name (file_name path) (file_name original))) ≡ true
      → Makes held files a b (parents_of_path path ++ copy_of_file path moment (as_file (get (plan_machine held files a) from))) → Makes held files a b (copies w path original (file_at (plan_machine held files a) original))
  copied b w moment now is makes =
      subst (λ (ts : List (Touch Entry)). Makes held files a b ts) (copies_some w path original moment (file_at (plan_machine held files a) original) now is)
      (subst (λ (q : Name). Makes held files a b (parents_of_path path ++ copy_of_file path moment (as_file (get (plan_machine held files a) q)))) named makes)

-- ---- rows

pub told_original : (w : World) (number : ℕ) (r : DuplicateFileRow) (path original : Text) (m : Machine) → Some original ≡ original_path w r → copied_to w number r path m ≡ Ok (copies w path original (file_at m original))
told_original w number r path original m is = ap (λ (o : Option Text). right_path (codes "DuplicateFile") number o >>= λ original. Ok (copies w path original (file_at m original))) (sym is)

pub told_path : (w : World) (r : Numbered DuplicateFileRow) (path : Text) (m : Machine) → Some (Some path) ≡ copy_path w r.row → copied_to w r.number r.row path m ≡ copied_row w r m
told_path w r path m is = ap (λ (o : Option (Option Text)). with_path r o (λ path. copied_to w r.number r.row path m)) is
