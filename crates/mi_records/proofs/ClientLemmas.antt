-- The clients of components in a plan, and the key paths that they record.
use Rattle.std.proofs.Common.{◌≡◌, ℕ, Bool, true, false, cond, List, [], ◌∷◌, ◌++◌, map, length, Bor, Option, Some, None, refl, sym, ap, ◌∙◌, subst, arith}
use Rattle.std.specs.Prelude.{◌==◌, codes, nat_lt, is_some, option_map, option_and_then, unwrap_or, All, Contains, Result, Ok, Err, IfOk, Vec}
use Rattle.std.specs.List.{AllByRecursion}
use Rattle.std.proofs.lemmas.List.Elements.{recursion_from_All, All-from_recursion}
use Rattle.std.specs.declared.alloc.Global.{Global}
use Rattle.std.specs.Result.{result_ok}
use Rattle.std.proofs.lemmas.Bool.Decides.{nat_tests}
use Rattle.mi_text.specs.Maps.{Name, Map}
use Rattle.mi_text.specs.Lookups.{Lookups}
use Rattle.mi_text.specs.declared.guid.Guid.{Guid}
use Rattle.mi_text.specs.declared.path.PathFault.TheVariants.{BadPart, Length}
use Rattle.mi_text.specs.Path.{is_part, fitted, file_of}
use Rattle.mi_text.specs.FileNames.{long_name}
use Rattle.mi_base.specs.declared.answers.Fault.{Fault}
use Rattle.mi_base.specs.declared.answers.Fault.TheVariants.{BadPath}
use Rattle.mi_base.specs.Names.{client_name}
use Rattle.mi_source.specs.Paths.{Files}
use Rattle.mi_dirs.specs.Places.{Place, Folder, target_of}
use Rattle.mi_schema.specs.declared.package.Package.{Package}
use Rattle.mi_schema.specs.declared.typed_rows.ComponentRow.{ComponentRow}
use Rattle.mi_schema.specs.declared.typed_rows.FileRow.{FileRow}
use Rattle.mi_schema.specs.declared.typed_rows.RegistryRow.{RegistryRow}
use Rattle.mi_schema.specs.Laws.{HaveOwnKeys}
use Rattle.mi_schema.specs.RowsOf.{rows_in, behind}
use Rattle.mi_schema.specs.TableRows.{Rows, Numbered, numbered_from, row_of, component_row_of, file_row_of, in_key_order, product_code}
use Rattle.mi_rows.specs.Values.{lacks}
use Rattle.mi_model.specs.Texts.{Text}
use Rattle.mi_model.specs.World.{World, Costed, RowEffect, Action, MakeLocal, MakeAbsent}
use Rattle.mi_model.specs.Asked.{component_folder, path_of_file, file_path, lookups, lookups_over, dirs_of}
use Rattle.mi_model.specs.ComponentRows.{action_in, is_local}
use Rattle.mi_model.specs.Components.{is_made_local, is_made_absent}
use Rattle.mi_model.specs.Conditions.{has}
use Rattle.mi_model.specs.KeyPaths.{KeyPath, key_path_text, of_file, of_rows, key_path_of}
use Rattle.mi_model.specs.ClientRows.{found_path, recorded_path, the_system, client_touch, client_touches, of_id, component_touches}
use Rattle.mi_model.specs.ProcessComponents.{touched_counts, process_components}
use Rattle.mi_model.specs.RegistryGuards.{prune_keys}
use Rattle.mi_model.specs.Refusals.{◌>>=◌}
use Rattle.mi_steps.specs.declared.plan.Plan.{Plan}
use Rattle.mi_steps.specs.Follows.{drop_touch}
use Rattle.mi_steps.specs.Makes.{Makes, plan_machine}
use Rattle.mi_steps.proofs.FollowLemmas.{joined}
use Rattle.mi_records.specs.declared.error.PlanError.{PlanError}
use Rattle.mi_records.specs.declared.error.PlanError.TheVariants as error
use Rattle.mi_records.specs.Choices.{Choices, IsAsked}
use Rattle.mi_records.specs.Clients.{IsOwn, IsFault, path_told, file_number, is_value, file_told, value_told, told, component_effect}
use Rattle.mi_records.specs.Order.{as_numbered}
use Rattle.mi_records.specs.Rows.{Row}
use Rattle.mi_records.specs.Stops.{TellsBy}
use Rattle.mi_records.proofs.KeyedLemmas.{row_numbered, is_there, own_row}
use Rattle.mi_records.proofs.PhaseLemmas.{map-over}

-- ---- a path is never empty

no_part : (part : List ℕ) → is_part part ≡ true → part ≡ [] → ⊥
no_part [] is none = cc
no_part (b ∷ bs) is none = cc

rest_of : (folder part : List ℕ) → folder ++ part ≡ [] → part ≡ []
rest_of [] part e = e
rest_of (b ∷ bs) part e = cc

path_there : (folder part : List ℕ) → result_ok (file_of folder part) ≡ Some [] → ⊥
path_there folder part e = by (is_part part) refl e
  where
    short : (b : Bool) → is_part part ≡ true → result_ok (cond b (Err Length) (Ok (folder ++ part))) ≡ Some [] → ⊥
    short true is e = cc
    short false is e = let none : folder ++ part ≡ [] = cc in no_part part is (rest_of folder part none)

    by : (b : Bool) → is_part part ≡ b → result_ok (cond b (fitted (folder ++ part)) (Err BadPart)) ≡ Some [] → ⊥
    by true is e = short (nat_lt 259 (length (folder ++ part))) is e
    by false is e = cc

file_there : (rows : Rows) (dirs : List Place) (f : FileRow) → path_of_file rows dirs f ≡ Some [] → ⊥
file_there rows dirs f e = by (component_folder rows dirs f.component) e
  where
    by : (o : Option Folder) → option_and_then (λ folder. result_ok (file_of folder (long_name f.file_name))) o ≡ Some [] → ⊥
    by None e = cc
    by (Some folder) e = path_there folder (long_name f.file_name) e

-- ---- the key path that is recorded

abbrev text_of : Result KeyPath Fault → Result Text Fault
text_of path = path >>= λ p. Ok (key_path_text p)

told_file : (path : Option Text) (number : ℕ) → (path ≡ Some [] → ⊥) → text_of (of_file path number) ≡ path_told (unwrap_or path []) number
unfolding key_path_text
told_file None number there = refl
told_file (Some []) number there = absurd (there refl)
told_file (Some (b ∷ bs)) number there = refl

nowhere : (rows : Rows) (f : FileRow) → path_of_file rows [] f ≡ None
nowhere rows f = by (component_row_of rows f.component)
  where
    by : (o : Option ComponentRow) → option_and_then (λ folder. result_ok (file_of folder (long_name f.file_name))) (option_and_then (λ (r : ComponentRow). target_of [] r.directory) o) ≡ None
    by None = refl
    by (Some r) = refl

-- a file by its row, where there are directories and where there are none
file_is : (rows : Rows) (o : Option (List Place)) (f : FileRow) (key : Name) (number : ℕ) → file_row_of rows key ≡ Some f
    → text_of (of_file (path_of_file rows (unwrap_or o []) f) number) ≡ path_told (unwrap_or (option_and_then (λ d. file_path rows d key) o) []) number
file_is rows None f key number is = ap (λ (p : Option Text). text_of (of_file p number)) (nowhere rows f)
file_is rows (Some d) f key number is =
    told_file (path_of_file rows d f) number (file_there rows d f)
    ∙ ap (λ (x : Option FileRow). path_told (unwrap_or (option_and_then (path_of_file rows d) x) []) number) (sym is)

-- and the component's folder
folder_is : (rows : Rows) (o : Option (List Place)) (r : ComponentRow) → IsOwn rows r → unwrap_or (target_of (unwrap_or o []) r.directory) [] ≡ unwrap_or (option_and_then (λ d. component_folder rows d r.component) o) []
folder_is rows None r own = refl
folder_is rows (Some d) r own = ap (λ (x : Option ComponentRow). unwrap_or (option_and_then (λ (c : ComponentRow). target_of d c.directory) x) []) (sym own)

module _ (w : World) (r : ComponentRow) (c : Choices) (own : IsOwn w.given.rows r) (found : found_path w r ≡ c.found r.component) where
  abbrev rows : Rows
  rows = w.given.rows

  abbrev dirs : Option (List Place)
  dirs = option_map (λ (c : Costed). c.dirs) w.costed

  folder : unwrap_or (target_of (dirs_of w) r.directory) [] ≡ (lookups w).folder r.component
  unfolding lookups lookups_over
  folder = folder_is rows dirs r own

  abbrev value_at : Bool → Option Name → Option (Numbered RegistryRow)
  value_at b k = cond b None (option_and_then (row_of (λ (n : Numbered RegistryRow). n.row.registry) (numbered_from 1 rows.registry)) k)

  abbrev file_at : Bool → Option Name → Option (Numbered FileRow)
  file_at b k = cond b (option_and_then (row_of (λ (n : Numbered FileRow). n.row.file) (numbered_from 1 rows.file)) k) None

  abbrev of_found : Option (Numbered RegistryRow) → Option (Numbered FileRow) → Result Text Fault
  of_found value file = cond (is_some value) (Ok (found_path w r)) (text_of (of_rows rows (dirs_of w) (lookups w) r value file))

  abbrev told_at : Bool → Option Name → Result Text Fault
  told_at b None = Ok ((lookups w).folder r.component)
  told_at b (Some key) = cond b (file_told (lookups w) r key (file_number rows key)) (Ok (value_told rows (lookups w) c r key))

  by_folder : of_found None None ≡ Ok ((lookups w).folder r.component)
  unfolding key_path_text
  by_folder = ap Ok folder

  by_value : (key : Name) (o : Option (Numbered RegistryRow)) → is_some o ≡ is_value rows key → of_found o None ≡ Ok (value_told rows (lookups w) c r key)
  by_value key (Some n) there = ap Ok found ∙ ap (λ b. Ok (cond b (c.found r.component) ((lookups w).folder r.component))) there
  by_value key None there = by_folder ∙ ap (λ b. Ok (cond b (c.found r.component) ((lookups w).folder r.component))) there

  by_file : (key : Name) (o : Option (Numbered FileRow)) → option_map (λ (n : Numbered FileRow). n.row) o ≡ file_row_of rows key → of_found None o ≡ file_told (lookups w) r key (option_map (λ (n : Numbered FileRow). n.number) o)
  unfolding lookups lookups_over
  by_file key (Some n) is = file_is rows dirs n.row key n.number (sym is)
  by_file key None is = by_folder

  by_key_path : (b : Bool) (k : Option Name) → of_found (value_at b k) (file_at b k) ≡ told_at b k
  by_key_path true None = by_folder
  by_key_path false None = by_folder
  by_key_path true (Some key) = by_file key (file_at true (Some key)) (row_numbered (λ (f : FileRow). f.file) rows.file key 1)
  by_key_path false (Some key) = by_value key (value_at false (Some key)) (is_there (λ (n : Numbered RegistryRow). n.row) (value_at false (Some key)) (row_of (λ (v : RegistryRow). v.registry) rows.registry key) (row_numbered (λ (v : RegistryRow). v.registry) rows.registry key 1))

  told_alike : (k : Option Name) → told_at (lacks 4 r.attributes) k ≡ told rows (lookups w) c r k
  told_alike None = refl
  told_alike (Some key) = refl

  recorded_here : recorded_path w r ≡ told rows (lookups w) c r r.key_path
  unfolding recorded_path key_path_of
  recorded_here = by_key_path (lacks 4 r.attributes) r.key_path ∙ told_alike r.key_path

-- ---- what is done to a component

made_absent : (a : Option Action) → is_made_absent a ≡ true → a ≡ Some MakeAbsent
made_absent None is = cc
made_absent (Some MakeLocal) is = cc
made_absent (Some MakeAbsent) is = refl

made_local : (a : Option Action) → is_made_local a ≡ true → a ≡ Some MakeLocal
made_local None is = cc
made_local (Some MakeLocal) is = refl
made_local (Some MakeAbsent) is = cc

made_neither : (a : Option Action) → is_made_absent a ≡ false → is_made_local a ≡ false → a ≡ None
made_neither None absent local = refl
made_neither (Some MakeLocal) absent local = cc
made_neither (Some MakeAbsent) absent local = cc

module _ (L : Lookups) (c : Choices) (p : Package) (w : World) (asked : IsAsked L c p w) where
  pub recorded_told : (r : ComponentRow) → IsOwn (rows_in p) r → recorded_path w r ≡ told (rows_in p) L c r r.key_path
  recorded_told r own =
      recorded_here w r c (subst (λ (rs : Rows). IsOwn rs r) (sym asked.rows) own) (asked.found r)
      ∙ ap (λ (rs : Rows). told rs (lookups w) c r r.key_path) asked.rows
      ∙ ap (λ (K : Lookups). told (rows_in p) K c r r.key_path) asked.lookups

  pub code_is : (code : ℕ) → code ≡ product_code (rows_in p) → product_code w.given.rows ≡ code
  code_is code is = ap product_code asked.rows ∙ sym is

  pub absent_is : (name : Name) → c.absent name ≡ true → action_in w name ≡ Some MakeAbsent
  absent_is name is = made_absent (action_in w name) (asked.absent name ∙ is)

  pub local_is : (name : Name) → c.local name ≡ true → action_in w name ≡ Some MakeLocal
  unfolding is_local
  local_is name is = made_local (action_in w name) (asked.local name ∙ is)

  pub neither_is : (name : Name) → c.absent name ≡ false → c.local name ≡ false → action_in w name ≡ None
  unfolding is_local
  neither_is name absent local = made_neither (action_in w name) (asked.absent name ∙ absent) (asked.local name ∙ local)

-- a text that is told, as an answer
pub path_none : (text : Text) (number : ℕ) (e : PlanError) → (length text == 0) ≡ true → IsFault (BadPath (codes "File") number) e → TellsBy {A = Bor (List ℕ)} (λ path. path.now) (path_told text number) (Err e)
path_none [] number error.NoMemory none is = tt
path_none [] number (error.Fault f) none is = ap Err (sym is)
path_none (b ∷ bs) number e none is = let there : (length (b ∷ bs) == 0) ≡ false = grind (arith, nat_tests) in let clash : true ≡ false = sym none ∙ there in absurd cc

pub path_some : (text : Text) (number : ℕ) → (length text == 0) ≡ false → path_told text number ≡ Ok text
path_some [] number some = cc
path_some (b ∷ bs) number some = refl

-- the touches of a component that is made local, by its key path
pub local_touches : (w : World) (r : ComponentRow) (id : Guid) (code : ℕ) (path : Text) → product_code w.given.rows ≡ code → recorded_path w r ≡ Ok path
    → client_touches w r id (Some MakeLocal) ≡ Ok (map (client_touch id path) (code ∷ cond (has 16 r.attributes) (the_system ∷ []) []))
local_touches w r id code path same is =
    ap (λ (x : Result Text Fault). x >>= λ path. Ok (map (client_touch id path) (product_code w.given.rows ∷ cond (has 16 r.attributes) (the_system ∷ []) []))) is
    ∙ ap (λ n. Ok (map (client_touch id path) (n ∷ cond (has 16 r.attributes) (the_system ∷ []) []))) same

pub local_refused : (w : World) (r : ComponentRow) (id : Guid) (f : Fault) → recorded_path w r ≡ Err f → client_touches w r id (Some MakeLocal) ≡ Err f
local_refused w r id f is = ap (λ (x : Result Text Fault). x >>= λ path. Ok (map (client_touch id path) (product_code w.given.rows ∷ cond (has 16 r.attributes) (the_system ∷ []) []))) is

pub absent_touches : (w : World) (r : ComponentRow) (id : Guid) (code : ℕ) → product_code w.given.rows ≡ code → client_touches w r id (Some MakeAbsent) ≡ Ok (drop_touch (client_name id.number code) ∷ [])
absent_touches w r id code same = ap (λ n. Ok (drop_touch (client_name id.number n) ∷ [])) same

pub component_is : (w : World) (r : ComponentRow) (o : Option Guid) → r.component_id ≡ o → component_touches w r ≡ of_id w r o
unfolding component_touches
component_is w r o is = ap (of_id w r) is

module _ (held : Map (List ℕ)) (files : Files) (a b : Plan) where
  -- a row that does as another one
  pub row_same : {A : Type 0} (x y : RowEffect) (r : Result A PlanError) → y (plan_machine held files a) ≡ x (plan_machine held files a) → Row held files a b x r → Row held files a b y r
  row_same x y (Ok done) same made = record { touches = made.touches; gives = same ∙ made.gives; makes = made.makes }
  row_same x y (Err error.NoMemory) same is = tt
  row_same x y (Err (error.Fault f)) same is = same ∙ is

  -- the product alone is a client, or the system with it
  pub client_alone : (id : Guid) (path : Text) (code : ℕ) (permanent : Bool) → permanent ≡ false → Makes held files a b (client_touch id path code ∷ []) → Makes held files a b (map (client_touch id path) (code ∷ cond permanent (the_system ∷ []) []))
  client_alone id path code permanent is one = subst (λ p. Makes held files a b (map (client_touch id path) (code ∷ cond p (the_system ∷ []) []))) (sym is) one

  pub client_more : (c : Plan) (id : Guid) (path : Text) (code : ℕ) (permanent : Bool) → permanent ≡ true → Makes held files a b (client_touch id path code ∷ []) → Makes held files b c (client_touch id path the_system ∷ [])
      → Makes held files a c (map (client_touch id path) (code ∷ cond permanent (the_system ∷ []) []))
  client_more c id path code permanent is one more =
      subst (λ p. Makes held files a c (map (client_touch id path) (code ∷ cond p (the_system ∷ []) []))) (sym is)
      (joined files (plan_machine held files a) (plan_machine held files b) (plan_machine held files c) a.script b.script c.script (client_touch id path code ∷ []) (client_touch id path the_system ∷ []) one more)

  -- a row whose key path is refused
  pub row_untold : {A : Type 0} (B : Type 0) (seen : A → Text) (x : Result Text Fault) (y : RowEffect) (e : PlanError) → ((f : Fault) → x ≡ Err f → y (plan_machine held files a) ≡ Err f) → TellsBy seen x (Err e) → Row held files a b {A = B} y (Err e)
  row_untold B seen x y error.NoMemory then is = tt
  row_untold B seen x y (error.Fault f) then is = then f is

-- ---- the phase

pub process_effect : (p : Package) (w : World) (ns : List (ℕ × Bor ComponentRow)) → w.given.rows ≡ rows_in p → map as_numbered ns ≡ in_key_order (λ (r : ComponentRow). r.component) (rows_in p).component
    → process_components w ≡ Ok (map (λ n. component_effect w (as_numbered n)) ns ++ prune_keys w (touched_counts w) ∷ [])
unfolding process_components
process_effect p w ns same is =
    ap (λ (all : List (Numbered ComponentRow)). Ok (map (component_effect w) all ++ prune_keys w (touched_counts w) ∷ [])) (ap (λ (rs : Rows). in_key_order (λ (r : ComponentRow). r.component) rs.component) same ∙ sym is)
    ∙ ap (λ (es : List RowEffect). Ok (es ++ prune_keys w (touched_counts w) ∷ [])) (map-over (component_effect w) as_numbered ns)

-- each row of the table is that of its key
own_all : (es : List (Name × ComponentRow)) (rows : List (ℕ × Bor ComponentRow)) → All (λ e. e.0 ≡ e.1.component) es → HaveOwnKeys es → AllByRecursion (λ r. Contains (behind es) r.1.now) rows
    → AllByRecursion (λ r. row_of (λ (c : ComponentRow). c.component) (behind es) r.1.now.component ≡ Some r.1.now) rows
own_all es [] keys apart each = tt
own_all es (r ∷ rows) keys apart each = (own_row (λ (c : ComponentRow). c.component) es r.1.now keys apart each.0, own_all es rows keys apart each.1)

pub ok_own : {E : Type 0} (result : Result (Vec (ℕ × Bor ComponentRow) Global) E) (es : List (Name × ComponentRow)) → All (λ e. e.0 ≡ e.1.component) es → HaveOwnKeys es → IfOk result (λ rows. All (λ r. Contains (behind es) r.1.now) rows.items)
    → IfOk result (λ rows. All (λ r. row_of (λ (c : ComponentRow). c.component) (behind es) r.1.now.component ≡ Some r.1.now) rows.items)
ok_own (Ok rows) es keys apart each =
    All-from_recursion (λ (r : ℕ × Bor ComponentRow). row_of (λ (c : ComponentRow). c.component) (behind es) r.1.now.component ≡ Some r.1.now) rows.items
    (own_all es rows.items keys apart (recursion_from_All (λ (r : ℕ × Bor ComponentRow). Contains (behind es) r.1.now) rows.items each))
ok_own (Err e) es keys apart each = tt
