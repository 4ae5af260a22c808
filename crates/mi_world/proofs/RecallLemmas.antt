-- Folders of an earlier run.
use Rattle.std.proofs.Common.{◌≡◌, ℕ, zero, suc, ◌+◌, ◌-◌, ◌<◌, ◌&&◌, Bool, true, false, cond, List, [], ◌∷◌, ◌++◌, map, length, take, drop, get_or, ◌≤◌, Option, Some, None, refl, sym, ap, ◌∙◌, add-one, arith}
use Rattle.std.specs.Prelude.{find, is_some, option_map, option_and_then, slice_get}
use Rattle.std.specs.Option.{option_or}
use Rattle.std.specs.List.{cons_option, filter_map}
use Rattle.std.specs.Borrow.{Bor}
use Rattle.std.proofs.lemmas.List.{append-nil}
use Rattle.std.specs.declared.cmp.Ordering.TheVariants.{Less, Equal, Greater}
use Rattle.std.specs.Ordering.{match_ordering}
use Rattle.std.specs.BTreeMap.{insert_entry}
use Rattle.std.specs.FinMap.{get, empty, entries, entries-insert, get-from_entries, get-empty, len-entries, len-empty}
use Rattle.std.specs.FinMap as fin
use Rattle.std.specs.FinMap.Entries.{put, by_order}
use Rattle.mi_text.specs.Maps.{Name, Map, name_cmp, same_name, map_values}
use Rattle.mi_text.proofs.MapLemmas.{names_total, same, get-map_values, entries-map_values}
use Rattle.mi_base.specs.Machine.{Machine}
use Rattle.mi_dirs.specs.Places.{Folder}
use Rattle.mi_rows.specs.Values.{lacks}
use Rattle.mi_schema.specs.declared.typed_rows.ComponentRow.{ComponentRow}
use Rattle.mi_schema.specs.declared.typed_rows.DirectoryRow.{DirectoryRow}
use Rattle.mi_schema.specs.TableRows.{Rows, Numbered, numbered_from, by_key, in_key_order, product_code}
use Rattle.mi_model.specs.Remembered.{client_path, tells_folder, remembered_folder, remembered}
use Rattle.mi_world.specs.Ground.{ground}
use Rattle.mi_world.specs.Recall.{keyed, by_component, in_order, entry_now, AreOrdered, told_path, told_over, first_told, AreToldBy, folder_told, folder_row}
use Rattle.mi_model.specs.World.{Given}
use Rattle.mi_world.proofs.RowLemmas.{drop-there, drop-none, drop-behind}
use Rattle.mi_world.proofs.DirectoryLemmas.{take-there, take-none, take-whole}

-- ---- rows in byte order of their keys

put_entry : (k : Bor (List ℕ)) (r : Bor ComponentRow) (es : List (Bor (List ℕ) × Bor ComponentRow))
    → map entry_now (insert_entry (λ a b. name_cmp a.now b.now) es k r) ≡ put name_cmp k.now r.now (map entry_now es)
put_entry k r [] = refl
put_entry k r (e ∷ es) =
    elim (name_cmp k.now e.0.now) as (λ o. map entry_now (match_ordering o ((k, r) ∷ e ∷ es) ((e.0, r) ∷ es) (e ∷ insert_entry (λ a b. name_cmp a.now b.now) es k r))
    ≡ by_order o ((k.now, r.now) ∷ map entry_now (e ∷ es)) ((e.0.now, r.now) ∷ map entry_now es) (entry_now e ∷ put name_cmp k.now r.now (map entry_now es))) [
      | Less ↦ refl
      | Equal ↦ refl
      | Greater ↦ ap (λ xs. entry_now e ∷ xs) (put_entry k r es)
    ]

of_length : {X : Type 0} (xs : List X) → length xs ≡ 0 → xs ≡ []
of_length [] e = refl
of_length (x ∷ xs) e = cc

none_ordered : entries (by_component []) ≡ []
none_ordered = of_length _ (sym (len-entries (by_component [])) ∙ len-empty name_cmp ComponentRow)

pub ordered_start : {K : Type 0} (es : List (K × ComponentRow)) (n : ℕ) (placed : List (Bor (List ℕ) × Bor ComponentRow)) → n ≡ length es → placed ≡ [] → AreOrdered (map (λ (e : K × ComponentRow). e.1) es) n placed
ordered_start es n placed at none = ap (map entry_now) none ∙ sym (ap (λ rows. entries (by_component rows)) (drop-behind es n at) ∙ none_ordered)

pub ordered_more : (rows : List ComponentRow) (k : ℕ) (old new : List (Bor (List ℕ) × Bor ComponentRow)) (key : Bor (List ℕ)) (r : Bor ComponentRow) → slice_get rows k ≡ Some r.now → key.now ≡ r.now.component
    → new ≡ insert_entry (λ a b. name_cmp a.now b.now) old key r → AreOrdered rows (k + 1) old → AreOrdered rows k new
ordered_more rows k old new key r there named is are =
    ap (map entry_now) is ∙ put_entry key r old
    ∙ ap (λ (n : Name). put name_cmp n r.now (map entry_now old)) named
    ∙ ap (put name_cmp r.now.component r.now) (are ∙ ap (λ n. entries (by_component (drop n rows))) (add-one k))
    ∙ sym (entries-insert names_total (by_component (drop (suc k) rows)) r.now.component r.now)
    ∙ sym (ap (λ rs. entries (by_component rs)) (drop-there rows k r.now there))

pub ordered_none : (rows : List ComponentRow) (k : ℕ) (es : List (Bor (List ℕ) × Bor ComponentRow)) → slice_get rows k ≡ None → AreOrdered rows (k + 1) es → AreOrdered rows k es
ordered_none rows k es there are = are ∙ ap (λ n. entries (by_component (drop n rows))) (add-one k) ∙ sym (ap (λ rs. entries (by_component rs)) (drop-none rows k there))

second_now : (es : List (Bor (List ℕ) × Bor ComponentRow)) → map (λ (r : Bor ComponentRow). r.now) (map (λ (e : Bor (List ℕ) × Bor ComponentRow). e.1) es) ≡ map (λ (e : Name × ComponentRow). e.1) (map entry_now es)
second_now [] = refl
second_now (e ∷ es) = ap (λ rs. e.1.now ∷ rs) (second_now es)

pub ordered_rows : (rows : List ComponentRow) (es : List (Bor (List ℕ) × Bor ComponentRow)) (rs : List (Bor ComponentRow)) → AreOrdered rows 0 es → rs ≡ map (λ (e : Bor (List ℕ) × Bor ComponentRow). e.1) es → map (λ (r : Bor ComponentRow). r.now) rs ≡ in_order rows
ordered_rows rows es rs are is = ap (map (λ (r : Bor ComponentRow). r.now)) is ∙ second_now es ∙ ap (map (λ (e : Name × ComponentRow). e.1)) are

-- the same rows as those in key order
find_row : (rows : List ComponentRow) (n : ℕ) (q : Name)
    → option_map (λ (r : Numbered ComponentRow). r.row) (fin.find name_cmp q (map (λ (r : Numbered ComponentRow). (r.row.component, r)) (numbered_from n rows))) ≡ fin.find name_cmp q (map keyed rows)
find_row [] n q = refl
find_row (r ∷ rows) n q =
    elim (same_name q r.component) as (λ b. option_map (λ (r : Numbered ComponentRow). r.row) (cond b (Some (record { number = n; row = r })) (fin.find name_cmp q (map (λ (r : Numbered ComponentRow). (r.row.component, r)) (numbered_from (suc n) rows)))) ≡ cond b (Some r) (fin.find name_cmp q (map keyed rows))) [
      | true ↦ refl
      | false ↦ find_row rows (suc n) q
    ]

rows_mapped : (rows : List ComponentRow) → map_values (λ (r : Numbered ComponentRow). r.row) (by_key (λ (c : ComponentRow). c.component) rows) ≡ by_component rows
rows_mapped rows = same _ _ (λ q.
    get-map_values (λ (r : Numbered ComponentRow). r.row) (by_key (λ (c : ComponentRow). c.component) rows) q
    ∙ ap (option_map (λ (r : Numbered ComponentRow). r.row)) (get-from_entries names_total (map (λ (r : Numbered ComponentRow). (r.row.component, r)) (numbered_from 1 rows)) q)
    ∙ find_row rows 1 q
    ∙ sym (get-from_entries names_total (map keyed rows) q))

second_row : (es : List (Name × Numbered ComponentRow)) → map (λ (e : Name × ComponentRow). e.1) (map (λ (e : Name × Numbered ComponentRow). (e.0, e.1.row)) es) ≡ map (λ (r : Numbered ComponentRow). r.row) (map (λ (e : Name × Numbered ComponentRow). e.1) es)
second_row [] = refl
second_row (e ∷ es) = ap (λ rs. e.1.row ∷ rs) (second_row es)

same_order : (rows : List ComponentRow) → in_order rows ≡ map (λ (r : Numbered ComponentRow). r.row) (in_key_order (λ (c : ComponentRow). c.component) rows)
unfolding in_key_order
same_order rows =
    let m = by_key (λ (c : ComponentRow). c.component) rows in
    ap (λ (x : Map ComponentRow). map (λ (e : Name × ComponentRow). e.1) (entries x)) (sym (rows_mapped rows))
    ∙ ap (map (λ (e : Name × ComponentRow). e.1)) (entries-map_values (λ (r : Numbered ComponentRow). r.row) m)
    ∙ second_row (entries m)

-- ---- key paths

pub told_none_over : (m : Machine) (code : ℕ) (r : ComponentRow) (dir : Name) (others : Option (List ℕ)) → told_path m code r ≡ None → others ≡ told_over m code r dir others
told_none_over m code r dir others none =
    elim (same_name dir r.directory) as (λ b. others ≡ cond b (option_or (told_path m code r) others) others) [ true ↦ sym (ap (λ o. option_or o others) none) | false ↦ refl ]

pub told_some_over : (m : Machine) (code : ℕ) (r : ComponentRow) (dir : Name) (path : List ℕ) (others : Option (List ℕ)) → told_path m code r ≡ Some path → cond (same_name dir r.directory) (Some path) others ≡ told_over m code r dir others
told_some_over m code r dir path others some = ap (λ o. cond (same_name dir r.directory) (option_or o others) others) (sym some)

module _ (rows : Rows) (m : Machine) where
  -- by one row: as it tells in the model
  by_row : (c : ComponentRow) (dir : Name) (b l : Bool) (o : Option (List ℕ)) (others : Option (List ℕ)) (rest : Option (Numbered ComponentRow)) (n : ℕ) → client_path (ground rows m) c ≡ o
      → others ≡ option_and_then (λ (r : Numbered ComponentRow). client_path (ground rows m) r.row) rest
      → cond b (option_or (cond l o None) others) others ≡ option_and_then (λ (r : Numbered ComponentRow). client_path (ground rows m) r.row) (cond (b && l && is_some o) (Some (record { number = n; row = c })) rest)
  by_row c dir true true (Some path) others rest n is so = sym is
  by_row c dir true true None others rest n is so = so
  by_row c dir true false o others rest n is so = so
  by_row c dir false l o others rest n is so = so

  first_is : (dir : Name) (ns : List (Numbered ComponentRow))
      → first_told m (product_code rows) dir (map (λ (r : Numbered ComponentRow). r.row) ns) ≡ option_and_then (λ (r : Numbered ComponentRow). client_path (ground rows m) r.row) (find (tells_folder (ground rows m) dir) ns)
  first_is dir [] = refl
  first_is dir (n ∷ ns) =
      by_row n.row dir (same_name dir n.row.directory) (lacks 4 n.row.attributes) (client_path (ground rows m) n.row) (first_told m (product_code rows) dir (map (λ (r : Numbered ComponentRow). r.row) ns)) (find (tells_folder (ground rows m) dir) ns) n.number refl (first_is dir ns)

  folder_is : (table : Map (List ℕ)) → AreToldBy m (product_code rows) (in_order rows.component) 0 table → (dir : Name) → option_and_then folder_told (get table dir) ≡ remembered_folder (ground rows m) dir
  folder_is table told dir =
      ap (option_and_then folder_told) (told dir ∙ ap (first_told m (product_code rows) dir) (same_order rows.component) ∙ first_is dir (in_key_order (λ (c : ComponentRow). c.component) rows.component))

  listed : (table : Map (List ℕ)) → AreToldBy m (product_code rows) (in_order rows.component) 0 table → (ds : List DirectoryRow)
      → filter_map (folder_row table) ds ≡ filter_map (λ (d : DirectoryRow). option_map (λ folder. (d.directory, folder)) (remembered_folder (ground rows m) d.directory)) ds
  listed table told [] = refl
  listed table told (d ∷ ds) =
      ap (λ o. cons_option (option_map (λ folder. (d.directory, folder)) o) (filter_map (folder_row table) ds)) (folder_is table told d.directory)
      ∙ ap (cons_option (option_map (λ folder. (d.directory, folder)) (remembered_folder (ground rows m) d.directory))) (listed table told ds)

  pub remembered_is : (table : Map (List ℕ)) (v : List (Name × Folder)) → AreToldBy m (product_code rows) (in_order rows.component) 0 table → v ≡ filter_map (folder_row table) rows.directory → v ≡ remembered (ground rows m)
  unfolding remembered
  remembered_is table v told is = is ∙ listed table told rows.directory

-- ---- one row more

filter_map-append : {X Y : Type 0} (f : X → Option Y) (xs ys : List X) → filter_map f (xs ++ ys) ≡ filter_map f xs ++ filter_map f ys
filter_map-append f [] ys = refl
filter_map-append f (x ∷ xs) ys = elim (f x) as (λ o. cons_option o (filter_map f (xs ++ ys)) ≡ cons_option o (filter_map f xs) ++ filter_map f ys) [ None ↦ filter_map-append f xs ys | Some y ↦ ap (λ zs. y ∷ zs) (filter_map-append f xs ys) ]

pub filter_behind : {X Y : Type 0} (f : X → Option Y) (xs : List X) (k : ℕ) (old new : List Y) → new ≡ old ++ cons_option (option_and_then f (slice_get xs k)) [] → old ≡ filter_map f (take k xs) → new ≡ filter_map f (take (k + 1) xs)
filter_behind f xs k old new is so_far =
    elim (slice_get xs k) as (λ o. slice_get xs k ≡ o → new ≡ old ++ cons_option (option_and_then f o) [] → new ≡ filter_map f (take (k + 1) xs)) [
      | None ↦ λ at e. e ∙ append-nil old ∙ so_far ∙ sym (ap (filter_map f) (ap (λ n. take n xs) (add-one k) ∙ take-none xs k at))
      | Some x ↦ λ at e. e ∙ ap (λ ys. ys ++ cons_option (f x) []) so_far ∙ sym (filter_map-append f (take k xs) (x ∷ [])) ∙ sym (ap (filter_map f) (ap (λ n. take n xs) (add-one k) ∙ take-there xs k x at))
    ] refl is

pub filter_all_behind : {X Y : Type 0} (f : X → Option Y) (xs : List X) (k : ℕ) (ys : List Y) → length xs ≤ k → ys ≡ filter_map f (take k xs) → ys ≡ filter_map f xs
filter_all_behind f xs k ys le so_far = so_far ∙ ap (filter_map f) (take-whole xs k le)

drop-mapped : (rs : List (Bor ComponentRow)) → drop (length rs) (map (λ (r : Bor ComponentRow). r.now) rs) ≡ []
drop-mapped [] = refl
drop-mapped (r ∷ rs) = drop-mapped rs

pub told_start : (m : Machine) (code : ℕ) (rs : List (Bor ComponentRow)) (table : Map (List ℕ)) → table ≡ empty → AreToldBy m code (map (λ (r : Bor ComponentRow). r.now) rs) (length rs) table
told_start m code rs table is dir = ap (λ (t : Map (List ℕ)). get t dir) is ∙ get-empty name_cmp dir ∙ sym (ap (first_told m code dir) (drop-mapped rs))

dropped_at : (rs : List (Bor ComponentRow)) (j : ℕ) (d : Bor ComponentRow) → j < length rs → drop j (map (λ (r : Bor ComponentRow). r.now) rs) ≡ (get_or rs j d).now ∷ drop (suc j) (map (λ (r : Bor ComponentRow). r.now) rs)
dropped_at [] j d lt = absurd (omega arith)
dropped_at (r ∷ rs) zero d lt = refl
dropped_at (r ∷ rs) (suc j) d lt = dropped_at rs j d (omega arith)

dropped_one : (rs : List (Bor ComponentRow)) (k : ℕ) (d : Bor ComponentRow) → 0 < k → k ≤ length rs → drop (k - 1) (map (λ (r : Bor ComponentRow). r.now) rs) ≡ (get_or rs (k - 1) d).now ∷ drop k (map (λ (r : Bor ComponentRow). r.now) rs)
dropped_one rs k d lt le =
    let above : suc (k - 1) ≡ k = omega arith in
    dropped_at rs (k - 1) d (omega arith) ∙ ap (λ n. (get_or rs (k - 1) d).now ∷ drop n (map (λ (r : Bor ComponentRow). r.now) rs)) above

pub told_step : (m : Machine) (code : ℕ) (rs : List (Bor ComponentRow)) (k : ℕ) (d : Bor ComponentRow) (old new : Map (List ℕ)) → 0 < k → k ≤ length rs → d ≡ get_or rs (k - 1) d
    → ((dir : Name) → get new dir ≡ told_over m code d.now dir (get old dir)) → AreToldBy m code (map (λ (r : Bor ComponentRow). r.now) rs) k old → AreToldBy m code (map (λ (r : Bor ComponentRow). r.now) rs) (k - 1) new
told_step m code rs k d old new lt le at is told dir =
    is dir ∙ ap (told_over m code d.now dir) (told dir)
    ∙ ap (λ (r : ComponentRow). told_over m code r dir (first_told m code dir (drop k (map (λ (r : Bor ComponentRow). r.now) rs)))) (ap (λ (r : Bor ComponentRow). r.now) at)
    ∙ sym (ap (first_told m code dir) (dropped_one rs k d lt le))

pub remembered_so : (rows : Rows) (m : Machine) (g : Given) → rows ≡ g.rows → m ≡ g.former → remembered (ground rows m) ≡ remembered g
unfolding remembered
remembered_so rows m g same there = λ i. remembered (ground (same i) (there i))
