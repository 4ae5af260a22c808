-- What rows of InstallFiles make of a plan.
use Rattle.std.proofs.Common.{◌≡◌, ◌≢◌, ℕ, zero, suc, ◌<◌, Bool, true, false, cond, List, [], ◌∷◌, ◌++◌, map, take, length, get_or, Option, Some, None, refl, sym, ap, ◌∙◌, arith}
use Rattle.std.specs.Prelude.{Result, Ok, Err, IsErrOf, ◌==◌}
use Rattle.std.specs.FinMap.{get}
use Rattle.std.proofs.lemmas.Bool.Decides.{nat_tests}
use Rattle.mi_text.specs.Maps.{Map}
use Rattle.mi_text.specs.Path.{is_file_path, is_path, parent_of, up_to_last}
use Rattle.mi_text.proofs.PathLemmas.{file_is, file_is_path, parent_open, only_folder}
use Rattle.mi_base.specs.declared.answers.Fault.{Fault}
use Rattle.mi_base.specs.declared.answers.Fault.TheVariants.{SizeDiffers}
use Rattle.mi_base.specs.declared.entry.Entry.{Entry}
use Rattle.mi_base.specs.declared.entry.Entry.TheVariants as entry
use Rattle.mi_base.specs.declared.entry.FileEntry.{FileEntry}
use Rattle.mi_base.specs.declared.entry.FileHead.{FileHead}
use Rattle.mi_base.specs.Names.{file_name}
use Rattle.mi_base.specs.Records.{with_bytes}
use Rattle.mi_source.specs.Paths.{Files}
use Rattle.mi_source.specs.Paths as source
use Rattle.mi_changes.specs.Touches.{Touch}
use Rattle.mi_image.specs.Items.{bytes_or_none}
use Rattle.mi_schema.specs.declared.typed_rows.FileRow.{FileRow}
use Rattle.mi_model.specs.World.{World, RowEffect}
use Rattle.mi_model.specs.FilePaths.{source_path}
use Rattle.mi_model.specs.FileVersions.{is_written}
use Rattle.mi_model.specs.InstallFiles.{source_bytes, right_file, right_size, stated_size, installed_file, file_with_parents, installed_row}
use Rattle.mi_model.specs.Parents.{folder_with_parents}
use Rattle.mi_model.specs.Refusals.{◌>>=◌}
use Rattle.mi_steps.specs.declared.plan.Plan.{Plan}
use Rattle.mi_steps.specs.Follows.{put_touch}
use Rattle.mi_steps.specs.Makes.{Makes, plan_machine, copy_touch}
use Rattle.mi_steps.specs.Rows.{FollowsRows}
use Rattle.mi_steps.proofs.FollowLemmas.{started}
use Rattle.mi_steps.proofs.StepLemmas.{grows_not, grows_on}
use Rattle.mi_records.specs.declared.error.PlanError.TheVariants as planned
use Rattle.mi_records.proofs.WriteLemmas.{rows_refused}
use Rattle.mi_installs.specs.declared.error.InstallError.{InstallError}
use Rattle.mi_installs.specs.declared.error.InstallError.TheVariants as error
use Rattle.mi_installs.specs.declared.placed.Placed.{Placed}
use Rattle.mi_installs.specs.Copying.{GrowsOn}
use Rattle.mi_installs.specs.Installs.{Refuses, Finds, written_row, InstallRow, InstallRows}
use Rattle.mi_installs.specs.Placings.{as_placed, HasFilePath}

-- ---- what calls leave

pub grown_not : (p : Plan) → GrowsOn p p
grown_not p = record { former = refl; grows = grows_not p.script }

pub grown_on : (a b c : Plan) → GrowsOn a b → GrowsOn b c → GrowsOn a c
grown_on a b c first second = record { former = second.former ∙ first.former; grows = grows_on a.script b.script c.script first.grows second.grows }

-- ---- the source's file

-- one that is right is there, with as many bytes as its row states
pub record IsFound (r : FileRow) (o : Option (List ℕ)) (found : List ℕ) : Type 0 where
  pub there : o ≡ Some found
  pub long : length found ≡ stated_size r

equal : (a b : ℕ) → (a == b) ≡ true → a ≡ b
equal a b e = grind (arith, nat_tests)

pub right_found : (r : FileRow) (o : Option (List ℕ)) (found : List ℕ) → right_file r o ≡ Ok found → IsFound r o found
right_found r None found e = cc
right_found r (Some bytes) found e = by (length bytes == stated_size r) refl e
  where
    by : (b : Bool) → (length bytes == stated_size r) ≡ b → cond b (Ok bytes) (Err (SizeDiffers r.file (stated_size r) (length bytes))) ≡ Ok found → IsFound r (Some bytes) found
    by true at e = let same : bytes ≡ found = cc in record { there = ap Some same; long = ap length (sym same) ∙ equal (length bytes) (stated_size r) at }
    by false at e = cc

-- so many bytes are right, or not
pub size_right : (r : FileRow) (bytes : List ℕ) (found : ℕ) → found ≡ length bytes → found ≡ stated_size r → right_size r bytes ≡ Ok bytes
size_right r bytes found is at = ap (λ b. cond b (Ok bytes) (Err (SizeDiffers r.file (stated_size r) (length bytes)))) (same (length bytes) (stated_size r) (sym is ∙ at))
  where
    same : (a b : ℕ) → a ≡ b → (a == b) ≡ true
    same a b e = grind (arith, nat_tests)

pub size_wrong : (r : FileRow) (bytes : List ℕ) (found : ℕ) → found ≡ length bytes → found ≢ stated_size r → right_size r bytes ≡ Err (SizeDiffers r.file (stated_size r) found)
size_wrong r bytes found is other =
    ap (λ b. cond b (Ok bytes) (Err (SizeDiffers r.file (stated_size r) (length bytes)))) (differ (length bytes) (stated_size r) (λ e. other (is ∙ e)))
    ∙ ap (λ n. Err (SizeDiffers r.file (stated_size r) n)) (sym is)
  where
    differ : (a b : ℕ) → a ≢ b → (a == b) ≡ false
    differ a b e = grind (arith, nat_tests)

pub finds_not : (A : Type 0) {B : Type 0} (does : Result B Fault) (f : Fault) (e : InstallError) → does ≡ Err f → Refuses f e → Finds {A = A} does (Err e)
finds_not A does f error.NoMemory is refused = tt
finds_not A does f (error.Fault g) is refused = is ∙ ap Err (sym refused)
finds_not A does f error.Source is refused = tt
finds_not A does f error.Volume is refused = refused

-- it is no device's error
pub no_source : {A : Type 0} (f : Fault) (e : InstallError) → Refuses f e → ¬ IsErrOf {T = A} (Err e) error.Source
no_source f error.NoMemory refused is = cc
no_source f (error.Fault g) refused is = cc
no_source f error.Source refused is = refused
no_source f error.Volume refused is = cc

pub no_volume : {A : Type 0} (f : Fault) (e : InstallError) → Refuses f e → ¬ IsErrOf {T = A} (Err e) error.Volume
no_volume f error.NoMemory refused is = cc
no_volume f (error.Fault g) refused is = cc
no_volume f error.Source refused is = cc
no_volume f error.Volume refused is = refused

-- the same by what the source has
pub bytes_of_source : (w : World) (r : FileRow) (files : Files) (path : List ℕ) → w.given.files ≡ files → path ≡ source_path w r → source_bytes w r ≡ right_file r (get files path)
unfolding source_bytes
bytes_of_source w r files path over at = ap (λ (d : Files). right_file r (get d (source_path w r))) over ∙ ap (λ (q : List ℕ). right_file r (get files q)) (sym at)

-- ---- the file that is written

pub file_parent : (path : List ℕ) → is_file_path path ≡ true → parent_of path ≡ up_to_last path
file_parent path is = sym (parent_open path path_is no_end)
  where
    path_is : is_path path ≡ true
    path_is = file_is_path path (file_is path is)

    no_end : (front : List ℕ) → path ≢ front ++ 92 ∷ []
    no_end front at = let no : is_file_path path ≡ false = (only_folder path front path_is at).1 in let clash : true ≡ false = sym is ∙ no in cc

pub file_made : (files : Files) (w : World) (p : Placed) (h : FileHead) (folder path bytes : List ℕ) → HasFilePath p → folder ≡ parent_of p.path → get files path ≡ Some bytes → with_bytes h bytes ≡ installed_file w (as_placed p) bytes
    → folder_with_parents folder ++ copy_touch files h path ∷ [] ≡ file_with_parents (installed_file w (as_placed p) bytes)
unfolding file_with_parents
file_made files w p h folder path bytes file at got same =
    ap (λ (f : List ℕ). folder_with_parents f ++ copy_touch files h path ∷ []) (at ∙ file_parent p.path file)
    ∙ ap (λ (o : Option (List ℕ)). folder_with_parents (up_to_last p.path) ++ put_touch (file_name h.shown) (entry.File (with_bytes h (bytes_or_none o))) ∷ []) got
    ∙ ap (λ (f : FileEntry). folder_with_parents (up_to_last p.path) ++ put_touch (file_name f.shown) (entry.File f) ∷ []) same

pub copied_long : (files : Files) (h : FileHead) (r : FileRow) (path bytes : List ℕ) → get files path ≡ Some bytes → length bytes ≡ stated_size r → h.length ≡ stated_size r → length (bytes_or_none (get files path)) ≡ h.length
copied_long files h r path bytes got long stated = ap (λ (o : Option (List ℕ)). length (bytes_or_none o)) got ∙ long ∙ sym stated

pub copied_whole : (files : Files) (h : FileHead) (r : FileRow) (path bytes : List ℕ) → get files path ≡ Some bytes → length bytes ≡ stated_size r → h.length ≡ stated_size r → length (source.bytes_or_none (get files path)) ≡ h.length
copied_whole files h r path bytes got long stated = ap (λ (o : Option (List ℕ)). length (source.bytes_or_none o)) got ∙ long ∙ sym stated

-- ---- rows

module _ (held : Map (List ℕ)) (files : Files) (a b : Plan) where
  -- a row whose bytes are found
  pub row_made : {A : Type 0} (effect : RowEffect) (does : Result (List ℕ) Fault) (found : List ℕ) (touches : List ℕ → List (Touch Entry)) (done : A) → effect (plan_machine held files a) ≡ (does >>= λ bytes. Ok (touches bytes)) → does ≡ Ok found
      → Makes held files a b (touches found) → InstallRow held files a b effect (Ok done)
  row_made effect does found touches done is gives made = record {
    touches = touches found;
    gives = is ∙ ap (λ (r : Result (List ℕ) Fault). r >>= λ bytes. Ok (touches bytes)) gives;
    makes = made;
  }

  -- a row whose bytes are refused
  pub row_refused : (A B : Type 0) (effect : RowEffect) (does : Result (List ℕ) Fault) (next : List ℕ → Result (List (Touch Entry)) Fault) (e : InstallError) → effect (plan_machine held files a) ≡ (does >>= next)
      → Finds {A = A} does (Err e) → InstallRow held files a b {A = B} effect (Err e)
  row_refused A B effect does next error.NoMemory is finds = tt
  row_refused A B effect does next (error.Fault f) is finds = is ∙ ap (λ (r : Result (List ℕ) Fault). r >>= next) finds
  row_refused A B effect does next error.Source is finds = tt
  row_refused A B effect does next error.Volume is finds = absurd finds

  -- a row that does as another one
  pub row_as : {A : Type 0} (x y : RowEffect) (r : Result A InstallError) → y (plan_machine held files a) ≡ x (plan_machine held files a) → InstallRow held files a b x r → InstallRow held files a b y r
  row_as x y (Ok done) same made = record { touches = made.touches; gives = same ∙ made.gives; makes = made.makes }
  row_as x y (Err error.NoMemory) same is = tt
  row_as x y (Err (error.Fault f)) same is = same ∙ is
  row_as x y (Err error.Source) same is = tt
  row_as x y (Err error.Volume) same is = tt

  -- a row that is refused refuses all of them
  pub rows_not : {X : Type 0} (A B : Type 0) (f : X → RowEffect) (xs : List X) (k : ℕ) (x : X) (c : Plan) (e : InstallError) → k < length xs → x ≡ get_or xs k x
      → FollowsRows files (plan_machine held files a) (plan_machine held files b) a.script b.script (map f (take k xs)) → InstallRow held files b c {A = A} (f x) (Err e) → InstallRows held files a c {A = B} (map f xs) (Err e)
  rows_not A B f xs k x c error.NoMemory within is so_far refused = tt
  rows_not A B f xs k x c (error.Fault fault) within is so_far refused = rows_refused held files a b A B f xs k x c (planned.Fault fault) within is so_far refused
  rows_not A B f xs k x c error.Source within is so_far refused = tt
  rows_not A B f xs k x c error.Volume within is so_far refused = tt

-- a row that isn't written
pub row_skipped : {A : Type 0} (held : Map (List ℕ)) (files : Files) (a : Plan) (w : World) (p : Placed) (done : A) → false ≡ is_written w p.row.now → InstallRow held files a a (installed_row w (as_placed p)) (Ok done)
row_skipped held files a w p done is = record {
  touches = [];
  gives = ap (λ b. cond b (source_bytes w p.row.now >>= λ bytes. Ok (file_with_parents (installed_file w (as_placed p) bytes))) (Ok [])) (sym is);
  makes = started files (plan_machine held files a) a.script;
}

-- a row that is
pub row_written : {A : Type 0} (held : Map (List ℕ)) (files : Files) (a b : Plan) (w : World) (p : Placed) (r : Result A InstallError) → true ≡ is_written w p.row.now
    → InstallRow held files a b (written_row w (as_placed p)) r → InstallRow held files a b (installed_row w (as_placed p)) r
row_written held files a b w p r is = row_as held files a b (written_row w (as_placed p)) (installed_row w (as_placed p)) r
    (ap (λ b. cond b (source_bytes w p.row.now >>= λ bytes. Ok (file_with_parents (installed_file w (as_placed p) bytes))) (Ok [])) (sym is))

-- what is decided of a row at its place
pub decided_at : {X : Type 0} (test : X → Bool) (decided : List Bool) (xs : List X) (k : ℕ) (x : X) → decided ≡ map test xs → k < length xs → x ≡ get_or xs k x → get_or decided k false ≡ test x
decided_at {X} test decided xs k x are within is = ap (λ (bs : List Bool). get_or bs k false) are ∙ there xs k within is
  where
    there : (xs : List X) (k : ℕ) → k < length xs → x ≡ get_or xs k x → get_or (map test xs) k false ≡ test x
    there [] k within is = absurd (omega arith)
    there (y ∷ ys) zero within is = ap test (sym is)
    there (y ∷ ys) (suc k) within is = there ys k (omega arith) is
