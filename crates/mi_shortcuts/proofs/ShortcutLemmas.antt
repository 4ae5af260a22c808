-- What rows of Shortcut name and make.
use Rattle.std.proofs.Common.{◌≡◌, ℕ, suc, ◌+◌, ◌^◌, ◌≤◌, Bool, true, false, cond, ◌&&◌, List, [], ◌∷◌, ◌++◌, map, length, Bor, Option, Some, None, refl, sym, ap, subst, ◌∙◌, arith, length-append}
use Rattle.std.specs.Prelude.{nat_lt, nat_le, option_map, option_and_then, ok_or, is_some, filter, All, IfSome, pos, negsuc, Result, Ok, Err}
use Rattle.std.specs.List.{AllByRecursion, filter_map, cons_option}
use Rattle.std.specs.Option.{option_map_or}
use Rattle.std.specs.Result.{result_ok}
use Rattle.std.specs.Char.{to_ascii_lowercase}
use Rattle.std.specs.Int.{w16, w32, to_be_bytes}
use Rattle.std.proofs.lemmas.Bool.Decides.{nat_tests}
use Rattle.std.proofs.lemmas.List.{length-map}
use Rattle.std.proofs.lemmas.List.Elements.{recursion_from_All, All-from_recursion}
use Rattle.mi_text.specs.Fold.{folded, IsNameLength}
use Rattle.mi_text.specs.FileNames.{long_name}
use Rattle.mi_text.specs.Lookups.{Lookups}
use Rattle.mi_text.specs.Maps.{Name, Map, same_name}
use Rattle.mi_text.specs.Path.{file_of, is_file_path, is_folder_path, is_part, last_part, up_to_last, parent_of}
use Rattle.mi_text.proofs.ByteLemmas.{both}
use Rattle.mi_text.proofs.MapLemmas.{from_same}
use Rattle.mi_text.proofs.PathLemmas.{folder_is, split_at_last, parent_of-file}
use Rattle.mi_base.specs.declared.answers.Fault.{Fault}
use Rattle.mi_base.specs.declared.answers.Fault.TheVariants.{BadPath}
use Rattle.mi_base.specs.declared.entry.Entry.{Entry}
use Rattle.mi_base.specs.declared.entry.Entry.TheVariants as entry
use Rattle.mi_base.specs.declared.entry.Shortcut.{Shortcut}
use Rattle.mi_base.specs.Fields.{string, signed}
use Rattle.mi_base.specs.Limits.{fits, is_short}
use Rattle.mi_base.specs.Names.{shortcut_name}
use Rattle.mi_base.specs.Spelling.{name_of, record_of, shortcut_bytes}
use Rattle.mi_source.specs.Paths.{Files}
use Rattle.mi_changes.specs.Touches.{Set}
use Rattle.mi_dirs.specs.Places.{Place, target_of}
use Rattle.mi_schema.specs.declared.package.Package.{Package}
use Rattle.mi_schema.specs.declared.typed_rows.ShortcutRow.{ShortcutRow}
use Rattle.mi_schema.specs.declared.typed_rows.ComponentRow.{ComponentRow}
use Rattle.mi_schema.specs.Laws.{IsWithin}
use Rattle.mi_schema.specs.RowsOf.{rows_in}
use Rattle.mi_schema.specs.TableRows.{Numbered, in_key_order, component_row_of, feature_row_of, row_of, Rows as TableRows}
use Rattle.mi_model.specs.Texts.{Text}
use Rattle.mi_model.specs.World.{World, RowEffect}
use Rattle.mi_model.specs.Asked.{comes, leaves, lookups}
use Rattle.mi_model.specs.ComponentRows.{rows_that}
use Rattle.mi_model.specs.Refusals.{◌>>=◌, expanded, expanded_or_empty, unless}
use Rattle.mi_model.specs.ClientRows.{recorded_path}
use Rattle.mi_model.specs.Shortcuts.{shortcut_table, shortcut_path, path_or_refused, target_text, shortcut_entry, shortcut_touches, created_touches, create_shortcuts, removed_shortcut, without_shortcut, leaving_shortcuts, touched_folders, remove_shortcuts, is_guarded_shortcut}
use Rattle.mi_model.specs.Prune.{prune_folders}
use Rattle.mi_steps.specs.declared.plan.Plan.{Plan}
use Rattle.mi_steps.specs.Makes.{Makes}
use Rattle.mi_records.specs.declared.error.PlanError.{PlanError}
use Rattle.mi_records.specs.declared.error.PlanError.TheVariants as error
use Rattle.mi_records.specs.Choices.{Choices, IsAsked}
use Rattle.mi_records.specs.Clients.{IsOwn, IsFault}
use Rattle.mi_records.specs.Order.{as_numbered}
use Rattle.mi_records.specs.Rows.{Row}
use Rattle.mi_records.specs.Stops.{TellsBy}
use Rattle.mi_records.specs.Values.{is_too_large}
use Rattle.mi_records.proofs.PhaseLemmas.{map-over}
use Rattle.mi_records.proofs.RemovingLemmas.{taken_seen}
use Rattle.mi_row_steps.specs.Sizes.{IsSmall, IsSized}
use Rattle.mi_row_steps.proofs.SizeLemmas.{or_first}
use Rattle.mi_shortcut_rows.specs.Entries.{HasNumbers, IsShortcutAt}
use Rattle.mi_shortcut_rows.specs.Targets.{component_to_start}
use Rattle.mi_shortcuts.specs.Entries.{created_effect, created_at, create_effect, remove_effect, touched_by}

-- ---- paths

module _ (L : Lookups) (c : Choices) (p : Package) (w : World) (asked : IsAsked L c p w) where
  abbrev in_folder : ShortcutRow → Option Text → Option Text
  in_folder r o = option_and_then (λ folder. result_ok (file_of folder (long_name r.name))) o

  pub path_is : (r : ShortcutRow) (o : Option Text) → o ≡ target_of c.dirs r.directory → shortcut_path w r ≡ in_folder r o
  unfolding shortcut_path
  path_is r o is = ap (λ (ds : List Place). in_folder r (target_of ds r.directory)) asked.dirs ∙ ap (in_folder r) (sym is)

pub path_there : (w : World) (r : Numbered ShortcutRow) (o : Option Text) → o ≡ shortcut_path w r.row → path_or_refused w r ≡ ok_or o (BadPath shortcut_table r.number)
path_there w r o is = ap (λ (x : Option Text). ok_or x (BadPath shortcut_table r.number)) (sym is)

pub fault_told : {A B : Type 0} (seen : A → B) (x : Result B Fault) (f : Fault) (e : PlanError) → x ≡ Err f → IsFault f e → TellsBy seen x (Err e)
fault_told seen x f error.NoMemory is at = tt
fault_told seen x f (error.Fault g) is at = is ∙ ap Err (sym at)

-- the folder of a file's path is its parent
pub parent_is : (path : Text) → is_file_path path ≡ true → parent_of path ≡ up_to_last path
unfolding is_file_path
parent_is path e =
    let inner = both (is_folder_path (up_to_last path)) (is_part (last_part path)) (both (is_folder_path (up_to_last path) && is_part (last_part path)) (nat_le (length path) 259) e).0 in
    ap parent_of (split_at_last path) ∙ parent_of-file (up_to_last path) (last_part path) (folder_is (up_to_last path) inner.0) inner.1

short_path : (path : Text) → is_file_path path ≡ true → length path ≤ 259
unfolding is_file_path
short_path path e =
    let short : nat_le (length path) 259 ≡ true = (both (is_folder_path (up_to_last path) && is_part (last_part path)) (nat_le (length path) 259) e).1 in
    grind (arith, nat_tests)

long_name_of : (path : Text) → length (shortcut_name path) ≡ suc (suc (length path))
unfolding shortcut_name
long_name_of path = ap (λ (n : ℕ). suc (suc n)) (length-map path to_ascii_lowercase)

pub right_length : (path : Text) → is_file_path path ≡ true → IsNameLength (shortcut_name path)
right_length path e =
    let short = short_path path e in
    let long = long_name_of path in
    (omega (arith, long), omega (arith, long, short))

-- ---- rows by their keys

find_own : (rows : List ComponentRow) (key : Name) (r : ComponentRow) → row_of (λ (x : ComponentRow). x.component) rows key ≡ Some r → key ≡ r.component
find_own [] key r is = cc
find_own (x ∷ rows) key r is = by_test (same_name key x.component) refl (find_own rows key r) is
  where
    by_test : (b : Bool) → same_name key x.component ≡ b → (row_of (λ (y : ComponentRow). y.component) rows key ≡ Some r → key ≡ r.component)
        → cond b (Some x) (row_of (λ (y : ComponentRow). y.component) rows key) ≡ Some r → key ≡ r.component
    by_test true at rest e = let same : x ≡ r = cc in from_same key x.component at ∙ ap (λ (y : ComponentRow). y.component) same
    by_test false at rest e = rest e

-- ---- entries

pub entry_named : (path : Text) (e : Entry) → IsShortcutAt path e → name_of e ≡ shortcut_name path
entry_named path e at = ap name_of at.is ∙ ap shortcut_name at.shown

-- the parts of a whole
whole_of : (a b c d e f g h i : List ℕ) → length (a ++ b ++ c ++ d ++ e ++ f ++ g ++ h ++ i) ≡ length a + length b + length c + length d + length e + length f + length g + length h + length i
whole_of a b c d e f g h i =
    omega (arith, length-append (a ++ b ++ c ++ d ++ e ++ f ++ g ++ h) i, length-append (a ++ b ++ c ++ d ++ e ++ f ++ g) h, length-append (a ++ b ++ c ++ d ++ e ++ f) g, length-append (a ++ b ++ c ++ d ++ e) f, length-append (a ++ b ++ c ++ d) e, length-append (a ++ b ++ c) d, length-append (a ++ b) c, length-append a b)

text_in : (t : List ℕ) → length t ≤ length (string t)
text_in t = omega (arith, length-append (to_be_bytes w32 (length t)) t)

sums : (a b c d e f g h i v w x y z whole : ℕ) → whole ≡ a + b + c + d + e + f + g + h + i → v ≤ b → w ≤ c → x ≤ d → y ≤ f → z ≤ i → v + w + x + y + z ≤ whole
sums a b c d e f g h i v w x y z whole is p q r s t = omega (arith, is, p, q, r, s, t)

total : (s : Shortcut) → length s.target + length s.arguments + length s.description + length s.icon + length s.folder ≤ length (shortcut_bytes s)
unfolding shortcut_bytes
total s =
    sums (length (string s.shown)) (length (string s.target)) (length (string s.arguments)) (length (string s.description)) (length (to_be_bytes w16 s.hotkey)) (length (string s.icon)) (length (signed s.icon_index)) (length (to_be_bytes w16 s.show)) (length (string s.folder))
    (length s.target) (length s.arguments) (length s.description) (length s.icon) (length s.folder) (length (shortcut_bytes s))
    (whole_of (string s.shown) (string s.target) (string s.arguments) (string s.description) (to_be_bytes w16 s.hotkey) (string s.icon) (signed s.icon_index) (to_be_bytes w16 s.show) (string s.folder))
    (text_in s.target) (text_in s.arguments) (text_in s.description) (text_in s.icon) (text_in s.folder)

long_part : (part whole n : ℕ) → nat_lt part (2 ^ 32) ≡ false → part ≤ n → n ≤ whole → nat_lt 16777216 whole ≡ true
long_part part whole n long one all = grind (arith, nat_tests)

alone : (s : Shortcut) → is_file_path s.shown ≡ true → fits (entry.Shortcut s) ≡ false → (is_short s.target && is_short s.arguments && is_short s.description && is_short s.icon && is_short s.folder) ≡ false
unfolding fits
alone s file unfit = ap (λ b. b && is_short s.target && is_short s.arguments && is_short s.description && is_short s.icon && is_short s.folder) (sym file) ∙ unfit

large : (s : Shortcut) (part : ℕ) → nat_lt part (2 ^ 32) ≡ false → part ≤ length s.target + length s.arguments + length s.description + length s.icon + length s.folder → is_too_large (entry.Shortcut s) ≡ true
unfolding record_of
large s part long one = or_first _ _ (long_part part (length (shortcut_bytes s)) (length s.target + length s.arguments + length s.description + length s.icon + length s.folder) long one (total s))

by_parts : (s : Shortcut) → (is_short s.target && is_short s.arguments && is_short s.description && is_short s.icon && is_short s.folder) ≡ false → is_too_large (entry.Shortcut s) ≡ true
by_parts s rest = elim (is_short s.target) as (λ b. is_short s.target ≡ b → (b && is_short s.arguments && is_short s.description && is_short s.icon && is_short s.folder) ≡ false → is_too_large (entry.Shortcut s) ≡ true) [
  | false ↦ λ is rest. large s (length s.target) is (omega arith)
  | true ↦ λ is rest. elim (is_short s.arguments) as (λ b. is_short s.arguments ≡ b → (b && is_short s.description && is_short s.icon && is_short s.folder) ≡ false → is_too_large (entry.Shortcut s) ≡ true) [
    | false ↦ λ is rest. large s (length s.arguments) is (omega arith)
    | true ↦ λ is rest. elim (is_short s.description) as (λ b. is_short s.description ≡ b → (b && is_short s.icon && is_short s.folder) ≡ false → is_too_large (entry.Shortcut s) ≡ true) [
      | false ↦ λ is rest. large s (length s.description) is (omega arith)
      | true ↦ λ is rest. elim (is_short s.icon) as (λ b. is_short s.icon ≡ b → (b && is_short s.folder) ≡ false → is_too_large (entry.Shortcut s) ≡ true) [
        | false ↦ λ is rest. large s (length s.icon) is (omega arith)
        | true ↦ λ is rest. large s (length s.folder) rest (omega arith)
      ] refl rest
    ] refl rest
  ] refl rest
] refl rest

pub shortcut_large : (path : Text) (e : Entry) → is_file_path path ≡ true → IsShortcutAt path e → fits e ≡ false → is_too_large e ≡ true
shortcut_large path e file at unfit = ap is_too_large at.is ∙ by_parts at.shortcut (alone at.shortcut (ap is_file_path at.shown ∙ file) (ap fits (sym at.is) ∙ unfit))

-- ---- rows that create

nested : {X : Type 0} (p t a : Result Text Fault) (entry_of : Text → Text → Text → Entry) (does : Text → Entry → Result X Fault)
    → (p >>= λ path. t >>= λ target. a >>= λ arguments. does path (entry_of path target arguments)) ≡ (p >>= λ path. (t >>= λ target. a >>= λ arguments. Ok (entry_of path target arguments)) >>= λ e. does path e)
nested (Err f) t a entry_of does = refl
nested (Ok path) (Err f) a entry_of does = refl
nested (Ok path) (Ok target) (Err f) entry_of does = refl
nested (Ok path) (Ok target) (Ok arguments) entry_of does = refl

pub created_by : (w : World) (r : Numbered ShortcutRow) (m : _) → create_effect w r m ≡ (path_or_refused w r >>= λ path. created_at w r path m)
unfolding created_touches
created_by w r m = nested (path_or_refused w r) (target_text w r) (expanded_or_empty (lookups w) shortcut_table r.number r.row.arguments) (shortcut_entry w r.row) (λ path e. created_effect r.number path e m)

-- one result behind another
pub then_ok : {A B : Type 0} (g : A → Result B Fault) (x : Result A Fault) (a : A) → x ≡ Ok a → (x >>= g) ≡ g a
then_ok g x a is = ap (λ r. r >>= g) is

pub then_err : {A B : Type 0} (g : A → Result B Fault) (x : Result A Fault) (f : Fault) → x ≡ Err f → (x >>= g) ≡ Err f
then_err g x f is = ap (λ r. r >>= g) is

pub coming_are : (L : Lookups) (c : Choices) (p : Package) (w : World) → IsAsked L c p w → (rows : List (ℕ × Bor ShortcutRow)) → map as_numbered rows ≡ in_key_order (λ (r : ShortcutRow). r.shortcut) (rows_in p).shortcut
    → map as_numbered (filter (λ r. c.coming r.1.now.component) rows) ≡ rows_that (λ (r : ShortcutRow). r.shortcut) (λ (r : ShortcutRow). r.component) (comes w) w.given.rows.shortcut
coming_are L c p w asked rows is =
    sym (taken_seen (λ (r : ShortcutRow). comes w r.component) (λ (r : ShortcutRow). c.coming r.component) (λ r. asked.coming r.component) rows)
    ∙ ap (λ (ns : List (Numbered ShortcutRow)). filter (λ (r : Numbered ShortcutRow). comes w r.row.component) ns) (is ∙ ap (λ (rs : TableRows). in_key_order (λ (r : ShortcutRow). r.shortcut) rs.shortcut) (sym asked.rows))

pub leaving_are : (L : Lookups) (c : Choices) (p : Package) (w : World) → IsAsked L c p w → (rows : List (ℕ × Bor ShortcutRow)) → map as_numbered rows ≡ in_key_order (λ (r : ShortcutRow). r.shortcut) (rows_in p).shortcut
    → map as_numbered (filter (λ r. c.leaving r.1.now.component) rows) ≡ leaving_shortcuts w
unfolding leaving_shortcuts
leaving_are L c p w asked rows is =
    sym (taken_seen (λ (r : ShortcutRow). leaves w r.component) (λ (r : ShortcutRow). c.leaving r.component) (λ r. asked.leaving r.component) rows)
    ∙ ap (λ (ns : List (Numbered ShortcutRow)). filter (λ (r : Numbered ShortcutRow). leaves w r.row.component) ns) (is ∙ ap (λ (rs : TableRows). in_key_order (λ (r : ShortcutRow). r.shortcut) rs.shortcut) (sym asked.rows))

pub create_effects : (w : World) (rows : List (ℕ × Bor ShortcutRow)) → map as_numbered rows ≡ rows_that (λ (r : ShortcutRow). r.shortcut) (λ (r : ShortcutRow). r.component) (comes w) w.given.rows.shortcut
    → create_shortcuts w ≡ Ok (map (λ r. create_effect w (as_numbered r)) rows)
unfolding create_shortcuts
create_effects w rows is = ap (λ (ns : List (Numbered ShortcutRow)). Ok (map (create_effect w) ns)) (sym is) ∙ ap Ok (map-over (create_effect w) as_numbered rows)

-- its numbers
three : (es : List (Name × ShortcutRow)) → AllByRecursion (λ e. IfSome e.1.hotkey (IsWithin (pos 0) (pos 65535))) es → AllByRecursion (λ e. IfSome e.1.icon_index (IsWithin (negsuc 32766) (pos 32767))) es
    → AllByRecursion (λ e. IfSome e.1.show_cmd (IsWithin (pos 0) (pos 65535))) es → AllByRecursion (λ e. HasNumbers e.1) es
three [] a b c = tt
three (e ∷ es) a b c = (record { hotkey = a.0; icon_index = b.0; show_cmd = c.0 }, three es a.1 b.1 c.1)

pub numbers_stand : (es : List (Name × ShortcutRow)) → All (λ e. IfSome e.1.hotkey (IsWithin (pos 0) (pos 65535))) es → All (λ e. IfSome e.1.icon_index (IsWithin (negsuc 32766) (pos 32767))) es
    → All (λ e. IfSome e.1.show_cmd (IsWithin (pos 0) (pos 65535))) es → All (λ e. HasNumbers e.1) es
numbers_stand es a b c = All-from_recursion (λ (e : Name × ShortcutRow). HasNumbers e.1) es
    (three es (recursion_from_All (λ (e : Name × ShortcutRow). IfSome e.1.hotkey (IsWithin (pos 0) (pos 65535))) es a) (recursion_from_All (λ (e : Name × ShortcutRow). IfSome e.1.icon_index (IsWithin (negsuc 32766) (pos 32767))) es b)
    (recursion_from_All (λ (e : Name × ShortcutRow). IfSome e.1.show_cmd (IsWithin (pos 0) (pos 65535))) es c))

-- ---- rows that remove

pub removed_by : (w : World) (r : Numbered ShortcutRow) (m : _) → remove_effect w r m ≡ (path_or_refused w r >>= λ path. Ok (without_shortcut w (shortcut_name path)))
unfolding removed_shortcut
removed_by w r m = refl

pub remove_effects : (w : World) (rows : List (ℕ × Bor ShortcutRow)) → map as_numbered rows ≡ leaving_shortcuts w
    → remove_shortcuts w ≡ Ok (map (λ r. remove_effect w (as_numbered r)) rows ++ prune_folders w (touched_folders w) ∷ [])
unfolding remove_shortcuts
remove_effects w rows is =
    ap (λ (ns : List (Numbered ShortcutRow)). Ok (map (remove_effect w) ns ++ prune_folders w (touched_folders w) ∷ [])) (sym is)
    ∙ ap (λ (es : List RowEffect). Ok (es ++ prune_folders w (touched_folders w) ∷ [])) (map-over (remove_effect w) as_numbered rows)

-- the folders that were touched, folded
folded_picks : {X : Type 0} (pick : X → Option Text) (xs : List X) → map folded (filter_map (λ x. option_map up_to_last (pick x)) xs) ≡ filter_map (λ x. option_map (λ path. folded (up_to_last path)) (pick x)) xs
folded_picks pick [] = refl
folded_picks {X} pick (x ∷ xs) = by_pick (pick x) (folded_picks pick xs)
  where
    by_pick : (o : Option Text) → map folded (filter_map (λ (y : X). option_map up_to_last (pick y)) xs) ≡ filter_map (λ (y : X). option_map (λ path. folded (up_to_last path)) (pick y)) xs
        → map folded (cons_option (option_map up_to_last o) (filter_map (λ (y : X). option_map up_to_last (pick y)) xs)) ≡ cons_option (option_map (λ path. folded (up_to_last path)) o) (filter_map (λ (y : X). option_map (λ path. folded (up_to_last path)) (pick y)) xs)
    by_pick None rest = rest
    by_pick (Some path) rest = ap (λ (l : List Text). folded (up_to_last path) ∷ l) rest

pub touched_are : (w : World) (rows : List (Numbered ShortcutRow)) → rows ≡ leaving_shortcuts w → filter_map (touched_by w) rows ≡ map folded (touched_folders w)
touched_are w rows is = ap (filter_map (touched_by w)) is ∙ sym (folded_picks (λ (r : Numbered ShortcutRow). shortcut_path w r.row) (leaving_shortcuts w))

-- ---- targets

pub own_of : (rows : TableRows) (key : Name) (r : ComponentRow) → Some r ≡ component_row_of rows key → IsOwn rows r
own_of rows key r is = ap (component_row_of rows) (sym (find_own rows.component key r (sym is))) ∙ sym is

module _ (L : Lookups) (c : Choices) (p : Package) (w : World) (asked : IsAsked L c p w) (r : Numbered ShortcutRow) where
  -- the key path of this component, or the text
  abbrev aimed : TableRows → Lookups → Option Name → Result Text Fault
  aimed rows K None = expanded K shortcut_table r.number r.row.target
  aimed rows K (Some key) = option_map_or (recorded_path w) (component_row_of rows key) (Ok [])

  aimed_at : (rows : TableRows) (K : Lookups) (b : Bool)
      → cond b (option_map_or (recorded_path w) (component_row_of rows r.row.component) (Ok [])) (expanded K shortcut_table r.number r.row.target) ≡ aimed rows K (component_to_start b r.row)
  aimed_at rows K true = refl
  aimed_at rows K false = refl

  pub target_is : (b : Bool) (o : Option Name) → is_some (feature_row_of (rows_in p) r.row.target) ≡ b → o ≡ component_to_start b r.row → target_text w r ≡ aimed (rows_in p) L o
  unfolding target_text
  target_is b o is at =
      aimed_at w.given.rows (lookups w) (is_some (feature_row_of w.given.rows r.row.target))
      ∙ ap (λ (rows : TableRows). aimed rows (lookups w) (component_to_start (is_some (feature_row_of rows r.row.target)) r.row)) asked.rows
      ∙ ap (λ (t : Bool). aimed (rows_in p) (lookups w) (component_to_start t r.row)) is
      ∙ ap (aimed (rows_in p) (lookups w)) (sym at)
      ∙ ap (λ (K : Lookups). aimed (rows_in p) K o) asked.lookups

-- ---- plans

module _ (held : Map (List ℕ)) (files : Files) (a b : Plan) (row : ℕ) (path : Text) (e : Entry) where
  pub created : (same : Entry) → IsSmall shortcut_table row e same → Makes held files a b (shortcut_touches path same) → Row held files a b {A = Unit {0}} (created_effect row path e) (Ok tt)
  created same small made = record {
    touches = shortcut_touches path e;
    gives = ap (λ (o : Option Fault). unless o (Ok (shortcut_touches path e))) small.small;
    makes = subst (λ (x : Entry). Makes held files a b (shortcut_touches path x)) small.is made;
  }

  pub created_not : (error : PlanError) → IsSized shortcut_table row e (Err error) → Row held files a b {A = Unit {0}} (created_effect row path e) (Err error)
  created_not error.NoMemory is = tt
  created_not (error.Fault f) is = ap (λ (o : Option Fault). unless o (Ok (shortcut_touches path e))) is

-- ---- names and folders of rows

pub named_so : (w : World) (r : ShortcutRow) (o : Option Text) → o ≡ shortcut_path w r → option_map shortcut_name o ≡ option_map shortcut_name (shortcut_path w r)
named_so w r o is = ap (option_map shortcut_name) is

pub touched_so : (w : World) (r : Numbered ShortcutRow) (o : Option Text) → o ≡ shortcut_path w r.row → option_map (λ path. folded (up_to_last path)) o ≡ touched_by w r
touched_so w r o is = ap (option_map (λ path. folded (up_to_last path))) is

-- what is guarded stays
pub kept_back : (w : World) (q : Name) → is_guarded_shortcut w q ≡ true → without_shortcut w q ≡ []
kept_back w q is = ap (λ b. cond b [] (Set q (λ old. None) ∷ [])) is

pub not_kept : (w : World) (q : Name) → is_guarded_shortcut w q ≡ false → without_shortcut w q ≡ Set q (λ old. None) ∷ []
not_kept w q is = ap (λ b. cond b [] (Set q (λ old. None) ∷ [])) is
