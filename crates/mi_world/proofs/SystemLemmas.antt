-- The properties of the system by the names of an image.
use Rattle.std.proofs.Common.{◌≡◌, ℕ, ◌+◌, ◌<◌, ◌&&◌, ◌||◌, Bool, true, false, cond, T, List, [], ◌∷◌, ◌++◌, map, length, take, get_or, Some, None, refl, sym, ap, ◌∙◌, eqb, eqb-true, Bor}
use Rattle.std.specs.Prelude.{nat_eq, codes, filter, Result, Ok, Err, IfOk}
use Rattle.std.proofs.lemmas.List.{length-map, take_more}
use Rattle.std.proofs.lemmas.List.Elements.{filter_map-append}
use Rattle.mi_props.specs.declared.props.PropFault.{PropFault}
use Rattle.mi_props.specs.declared.props.PropError.{PropError}
use Rattle.mi_props.specs.declared.props.PropError.TheVariants as prop
use Rattle.mi_props.specs.Starts.{IfFault}
use Rattle.std.specs.List.{AllByRecursion, cons_option, filter_map, starts_with, list_any}
use Rattle.std.specs.FinMap.{get, keys, entries, entries_sorted, get-entries, is_sorted}
use Rattle.std.specs.FinMap as fin
use Rattle.std.specs.FinMap.Entries.{below_all}
use Rattle.mi_text.specs.Maps.{Name, Map, name_cmp}
use Rattle.mi_text.proofs.MapLemmas.{same_itself, entries-map_values, keys-map_values}
use Rattle.mi_base.specs.declared.entry.Entry.TheVariants as entry
use Rattle.mi_base.specs.Machine.{Machine}
use Rattle.mi_base.specs.Names.{system_name}
use Rattle.mi_base.specs.System.{default_system, is_system_property}
use Rattle.mi_image.specs.declared.item.Item.{Item}
use Rattle.mi_image.specs.declared.item.Item.TheVariants.{Head, Whole}
use Rattle.mi_image.specs.Items.{Items, machine_over, entry_over, AreRight, MayStand}
use Rattle.mi_image.specs.Lookups.{whole_of}
use Rattle.mi_image.proofs.ListLemmas.{each_right}
use Rattle.mi_image.proofs.ScanLemmas.{head_first, apart}
use Rattle.mi_model.specs.World.{Given}
use Rattle.mi_model.specs.Settings.{settings, system_pair, system_properties}
use Rattle.mi_schema.specs.TableRows.{Rows}
use Rattle.mi_world.specs.Ground.{ground}
use Rattle.mi_dirs.specs.Places.{Folder}
use Rattle.mi_world.specs.Systems.{system_of, system_at, listed_in, folder_named, pair_folder}

true_of : (b : Bool) → T b → b ≡ true
true_of true t = refl
true_of false t = absurd t

both : (a b : Bool) → (a && b) ≡ true → (a ≡ true) × (b ≡ true)
both true true e = (refl, refl)
both true false e = cc
both false b e = cc

-- each entry of a sorted list is found
each_found : {X : Type 0} (all : List (Name × X)) (es : List (Name × X)) → is_sorted name_cmp es ≡ true → ((q : Name) (x : X) → fin.find name_cmp q es ≡ Some x → fin.find name_cmp q all ≡ Some x) → AllByRecursion (λ e. fin.find name_cmp e.0 all ≡ Some e.1) es
each_found all [] sorted h = tt
each_found all (e ∷ es) sorted h =
    let parts = both (below_all name_cmp e.0 es) (is_sorted name_cmp es) sorted in (
      h e.0 e.1 (ap (λ (b : Bool). cond b (Some e.1) (fin.find name_cmp e.0 es)) (same_itself e.0)),
      each_found all es parts.1 (λ q x at. h q x (ap (λ (b : Bool). cond b (Some e.1) (fin.find name_cmp q es)) (apart e.0 q (head_first e.0 q es x parts.0 at)) ∙ at)),
    )

begins : Name → Bool
begins q = starts_with nat_eq q (codes "y/")

-- an entry at its name: it is found there, and one of the system begins so
Right : Items → Name × Item → Type 0
Right items e = (get items e.0 ≡ Some e.1) × MayStand e.0 e.1

zip : (items : Items) (es : List (Name × Item)) → AllByRecursion (λ e. fin.find name_cmp e.0 (entries items) ≡ Some e.1) es → AllByRecursion (λ e. MayStand e.0 e.1) es → AllByRecursion (Right items) es
unfolding Right
zip items [] a b = tt
zip items (e ∷ es) a b = ((get-entries items e.0 ∙ a.0, b.0), zip items es a.1 b.1)

unpicked : (q : Name) (i : Item) → MayStand q i → begins q ≡ false → system_of (whole_of (Some i)) ≡ None
unfolding begins system_name
unpicked q (Head h content) may isnt = refl
unpicked q (Whole (entry.System property text)) may isnt = let yes : true ≡ false = ap (λ n. starts_with nat_eq n (codes "y/")) may.named ∙ isnt in cc
unpicked q (Whole (entry.File f)) may isnt = refl
unpicked q (Whole (entry.Folder s)) may isnt = refl
unpicked q (Whole (entry.Value k v)) may isnt = refl
unpicked q (Whole (entry.Key r s)) may isnt = refl
unpicked q (Whole (entry.Shortcut s)) may isnt = refl
unpicked q (Whole (entry.Variable v)) may isnt = refl
unpicked q (Whole (entry.Client c)) may isnt = refl
unpicked q (Whole (entry.Product p)) may isnt = refl

over_is : (held files : Map (List ℕ)) (q : Name) (i : Item) → system_of (whole_of (Some i)) ≡ system_pair (q, entry_over held files i)
over_is held files q (Head h content) = refl
over_is held files q (Whole (entry.System property text)) = refl
over_is held files q (Whole (entry.File f)) = refl
over_is held files q (Whole (entry.Folder s)) = refl
over_is held files q (Whole (entry.Value k v)) = refl
over_is held files q (Whole (entry.Key r s)) = refl
over_is held files q (Whole (entry.Shortcut s)) = refl
over_is held files q (Whole (entry.Variable v)) = refl
over_is held files q (Whole (entry.Client c)) = refl
over_is held files q (Whole (entry.Product p)) = refl

picks : (held files : Map (List ℕ)) (items : Items) (es : List (Name × Item)) → AllByRecursion (Right items) es
    → filter_map (system_at items) (filter begins (map (λ (e : Name × Item). e.0) es)) ≡ filter_map system_pair (map (λ (e : Name × Item). (e.0, entry_over held files e.1)) es)
unfolding Right
picks held files items [] all = refl
picks held files items (e ∷ es) all =
    let here : system_at items e.0 ≡ system_pair (e.0, entry_over held files e.1) = ap (λ o. system_of (whole_of o)) all.0.0 ∙ over_is held files e.0 e.1 in
    let rest = picks held files items es all.1 in
    elim (begins e.0) as (λ b. begins e.0 ≡ b → filter_map (system_at items) (cond b (e.0 ∷ filter begins (map (λ (x : Name × Item). x.0) es)) (filter begins (map (λ (x : Name × Item). x.0) es))) ≡ cons_option (system_pair (e.0, entry_over held files e.1)) (filter_map system_pair (map (λ (x : Name × Item). (x.0, entry_over held files x.1)) es))) [
      | true ↦ λ is. ap (λ o. cons_option o (filter_map (system_at items) (filter begins (map (λ (x : Name × Item). x.0) es)))) here ∙ ap (cons_option (system_pair (e.0, entry_over held files e.1))) rest
      | false ↦ λ is.
          let none : system_pair (e.0, entry_over held files e.1) ≡ None = sym (over_is held files e.0 e.1) ∙ unpicked e.0 e.1 all.0.1 is in
          rest ∙ ap (λ o. cons_option o (filter_map system_pair (map (λ (x : Name × Item). (x.0, entry_over held files x.1)) es))) (sym none)
    ] refl

pub system_listed : (held files : Map (List ℕ)) (items : Items) → AreRight items → filter_map (system_at items) (filter (λ q. starts_with nat_eq q (codes "y/")) (keys (machine_over held files items))) ≡ filter_map system_pair (entries (machine_over held files items))
unfolding machine_over begins
system_listed held files items right =
    ap (λ ks. filter_map (system_at items) (filter begins ks)) (keys-map_values (entry_over held files) items)
    ∙ picks held files items (entries items) (zip items (entries items) (each_found (entries items) (entries items) (true_of _ (entries_sorted items)) (λ q x at. at)) (each_right items right))
    ∙ ap (filter_map system_pair) (sym (entries-map_values (entry_over held files) items))

none_any : (ks : List Name) → filter (λ q. starts_with nat_eq q (codes "y/")) ks ≡ [] → list_any is_system_property ks ≡ false
none_any [] e = refl
none_any (k ∷ ks) e =
    elim (starts_with nat_eq k (codes "y/")) as (λ b. cond b (k ∷ filter (λ q. starts_with nat_eq q (codes "y/")) ks) (filter (λ q. starts_with nat_eq q (codes "y/")) ks) ≡ [] → (b || list_any is_system_property ks) ≡ false) [
      | true ↦ λ at. cc
      | false ↦ λ at. none_any ks at
    ] e

some_any : (ks : List Name) (n : Name) (ns : List Name) → filter (λ q. starts_with nat_eq q (codes "y/")) ks ≡ n ∷ ns → list_any is_system_property ks ≡ true
some_any [] n ns e = cc
some_any (k ∷ ks) n ns e =
    elim (starts_with nat_eq k (codes "y/")) as (λ b. cond b (k ∷ filter (λ q. starts_with nat_eq q (codes "y/")) ks) (filter (λ q. starts_with nat_eq q (codes "y/")) ks) ≡ n ∷ ns → (b || list_any is_system_property ks) ≡ true) [
      | true ↦ λ at. refl
      | false ↦ λ at. some_any ks n ns at
    ] e

pub none_held : (m : Machine) (es : List (Name × List ℕ)) → filter (λ q. starts_with nat_eq q (codes "y/")) (keys m) ≡ [] → es ≡ default_system → es ≡ system_properties m
unfolding system_properties
none_held m es none is = is ∙ sym (ap (λ b. cond b (filter_map system_pair (entries m)) default_system) (none_any (keys m) none))

pub some_held : (m : Machine) (es : List (Name × List ℕ)) (n : Name) (ns : List Name) → filter (λ q. starts_with nat_eq q (codes "y/")) (keys m) ≡ n ∷ ns → es ≡ filter_map system_pair (entries m) → es ≡ system_properties m
unfolding system_properties
some_held m es n ns some is = is ∙ sym (ap (λ b. cond b (filter_map system_pair (entries m)) default_system) (some_any (keys m) n ns some))

pub settings_so : (rows : Rows) (m : Machine) (g : Given) → rows ≡ g.rows → m ≡ g.former → settings (ground rows m) ≡ settings g
unfolding settings
settings_so rows m g same there = λ i. settings (ground (same i) (there i))

pub names_none : (ns : List (Bor Name)) → length ns ≡ 0 → map (λ (n : Bor Name). n.now) ns ≡ []
names_none [] e = refl
names_none (n ∷ ns) e = cc

-- what is listed of names, of which there are none or some
pub held_so : (m : Machine) (ns : List Name) (es : List (Name × List ℕ)) → ns ≡ filter (λ q. starts_with nat_eq q (codes "y/")) (keys m) → eqb (length ns) 0 ≡ false → es ≡ filter_map system_pair (entries m) → es ≡ system_properties m
held_so m [] es is some listed = cc
held_so m (n ∷ ns) es is some listed = some_held m es n ns (sym is) listed

pub listed_so : (held files : Map (List ℕ)) (items : Items) → AreRight items → (names : List (Bor Name)) (es : List (Name × List ℕ)) → map (λ (n : Bor Name). n.now) names ≡ filter (λ q. starts_with nat_eq q (codes "y/")) (keys (machine_over held files items))
    → es ≡ listed_in items names → es ≡ system_properties (machine_over held files items)
listed_so held files items right names es is listed =
    let m = machine_over held files items in
    let ns = map (λ (n : Bor Name). n.now) names in
    elim (eqb (length names) 0) as (λ b. eqb (length names) 0 ≡ b → es ≡ cond b default_system (filter_map (system_at items) ns) → es ≡ system_properties m) [
      | true ↦ λ e h. none_held m es (sym is ∙ names_none names (eqb-true (length names) 0 e)) h
      | false ↦ λ e h. held_so m ns es is (ap (λ k. eqb k 0) (length-map names (λ (n : Bor Name). n.now)) ∙ e) (h ∙ ap (filter_map (system_at items)) is ∙ system_listed held files items right)
    ] refl listed

-- ---- the folders that they name

-- one pair more
pub folders_more : (pairs : List (Name × List ℕ)) (i : ℕ) (pair : Name × List ℕ) (text : List ℕ) (old new : List Folder) → i < length pairs → pair ≡ get_or pairs i pair → text ≡ pair.1
    → new ≡ old ++ cons_option (folder_named text) [] → old ≡ filter_map pair_folder (take i pairs) → new ≡ filter_map pair_folder (take (i + 1) pairs)
folders_more pairs i pair text old new lt at said is so_far =
    is ∙ ap (λ t. old ++ cons_option (folder_named t) []) said ∙ ap (λ fs. fs ++ cons_option (pair_folder pair) []) so_far
    ∙ ap (λ (p : Name × List ℕ). filter_map pair_folder (take i pairs) ++ cons_option (pair_folder p) []) at
    ∙ sym (filter_map-append pair_folder (take i pairs) (get_or pairs i pair ∷ []))
    ∙ sym (ap (filter_map pair_folder) (take_more pairs i pair lt))

-- ---- the properties at the start

pub ok_so : {A E : Type 0} (r : Result A E) (P Q : A → Type 0) → ((a : A) → P a → Q a) → IfOk r P → IfOk r Q
ok_so (Ok a) P Q f h = f a h
ok_so (Err e) P Q f h = tt

pub fault_so : {A : Type 0} (r : Result A PropError) (P Q : PropFault → Type 0) → ((f : PropFault) → P f → Q f) → IfFault r P → IfFault r Q
fault_so (Ok a) P Q f h = tt
fault_so (Err prop.NoMemory) P Q f h = tt
fault_so (Err (prop.Fault x)) P Q f h = f x h
