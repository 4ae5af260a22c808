-- What an image that was scanned has at a name.
use Rattle.std.proofs.Common.{◌≡◌, ℕ, zero, suc, ◌<◌, ◌≤◌, true, false, cond, List, [], ◌∷◌, ◌++◌, map, take, drop, length, Option, Some, None, Bor, refl, sym, ap, ◌∙◌, arith, codes, append_assoc, get_or, ◌+◌, Result, Ok, Err}
use Rattle.std.specs.Prelude.{option_map, IsOkAnd, filter, nat_eq, is_none}
use Rattle.std.specs.List.{filter_map, flat_map, starts_with, cons_option}
use Rattle.std.specs.FinMap.{get, keys, entries-from_sorted, get-from_sorted}
use Rattle.md5.specs.Md5.{md5}
use Rattle.std.proofs.lemmas.List.{append-nil}
use Rattle.mi_text.proofs.MapLemmas.{keys-map_values}
use Rattle.mi_text.specs.Fold.{folded}
use Rattle.mi_text.specs.Maps.{Name, Map, name_cmp}
use Rattle.mi_source.specs.Paths.{names_in, name_in, bytes_or_none}
use Rattle.mi_base.specs.declared.entry.FileEntry.{FileEntry}
use Rattle.mi_base.specs.declared.entry.FileHead.{FileHead}
use Rattle.mi_base.specs.declared.entry.Entry.{Entry}
use Rattle.mi_base.specs.declared.entry.Entry.TheVariants as entry
use Rattle.mi_base.specs.Names.{file_name, key_name}
use Rattle.mi_base.specs.Spelling.{head_of}
use Rattle.mi_base.specs.Records.{with_bytes}
use Rattle.mi_base.specs.Machine.{Machine, machine_of, as_file, as_key}
use Rattle.mi_image.specs.declared.item.Content.{Content}
use Rattle.mi_image.specs.declared.item.Item.{Item}
use Rattle.mi_image.specs.declared.item.Item.TheVariants.{Head, Whole}
use Rattle.mi_image.specs.Fronts.{value_front}
use Rattle.mi_image.specs.Items.{Items, AreRight, content_bytes, entry_over, bytes_of_file, machine_over, ImageOf}
use Rattle.mi_image.specs.Lookups.{whole_of, head_in}
use Rattle.mi_image.proofs.LookupLemmas.{over_whole, get_over}
use Rattle.mi_print.specs.Lines.{details, head_details}
use Rattle.mi_print.specs.Registry.{key_line, stray}
use Rattle.mi_print.specs.Trees.{path_lines, tree}
use Rattle.mi_print_looks.specs.Machines.{no_files, machine_in, plain_machine}
use Rattle.mi_show.specs.Machines.{IsScanned, head_lines, heads_tree, heads_of, lines_after, path_after}
use Rattle.mi_print.specs.Entries.{other_line}
use Rattle.mi_print_looks.specs.Sets.{names_of}
use Rattle.mi_print_looks.specs.Strays.{stray_at}
use Rattle.mi_show.specs.Prints.{other_at, lines, exported_at, values_of, key_with_values, registry, section, others, shown}

-- ---- a source without files

pub nothing_at : (q : Name) → get no_files q ≡ None
nothing_at q = get-from_sorted name_cmp [] q tt

pub no_names : (folder : Name) → names_in no_files folder ≡ []
no_names folder = ap (λ (es : List (Name × List ℕ)). filter_map (name_in folder) (map (λ e. e.0) es)) (entries-from_sorted name_cmp [] tt)

take_none : (n : ℕ) → take {A = ℕ} n [] ≡ []
take_none zero = refl
take_none (suc n) = refl

drop_none : (n : ℕ) → drop {A = ℕ} n [] ≡ []
drop_none zero = refl
drop_none (suc n) = refl

pub no_bytes : (q : Name) (at want : ℕ) → take want (drop at (bytes_or_none (get no_files q))) ≡ []
no_bytes q at want =
    ap (λ (o : Option (List ℕ)). take want (drop at (bytes_or_none o))) (nothing_at q)
    ∙ ap (λ (l : List ℕ). take want l) (drop_none at)
    ∙ take_none want

-- ---- what isn't a file

other_file : (f : FileEntry) → other_at (Some (entry.File f)) ≡ other_at None
unfolding other_line
other_file f = refl

pub whole_at : {Y : Type 0} → (kind : Option Entry → Y) → ((f : FileEntry) → kind (Some (entry.File f)) ≡ kind None) → (held : Map (List ℕ)) (items : Items) (q : Name)
    → kind (whole_of (get items q)) ≡ kind (get (machine_in held items) q)
whole_at kind known held items q =
    let same : Some (kind (whole_of (get items q))) ≡ Some (kind (get (machine_in held items) q)) = over_whole (λ e. Some (kind e)) (λ f. ap Some (known f)) held no_files items q in
    cc

pub other_whole : (held : Map (List ℕ)) (items : Items) (q : Name) → other_at (whole_of (get items q)) ≡ other_at (get (machine_in held items) q)
other_whole held items q = whole_at other_at other_file held items q

-- ---- lists of names

flat_map_now : (at : List ℕ → List ℕ) (ns : List (Bor (List ℕ))) → flat_map (λ (n : Bor (List ℕ)). at n.now) ns ≡ flat_map at (map (λ (n : Bor (List ℕ)). n.now) ns)
flat_map_now at [] = refl
flat_map_now at (n ∷ ns) = ap (λ (l : List ℕ). at n.now ++ l) (flat_map_now at ns)

pub names_text : (at : List ℕ → List ℕ) (ns : List (Bor (List ℕ))) (qs : List Name) → map (λ (n : Bor (List ℕ)). n.now) ns ≡ qs → flat_map (λ (n : Bor (List ℕ)). at n.now) ns ≡ flat_map at qs
names_text at ns qs e = flat_map_now at ns ∙ ap (flat_map at) e

-- ---- files

pub drop_more : {X : Type 0} → (xs : List X) (i : ℕ) (d : X) → i < length xs → drop i xs ≡ get_or xs i d ∷ drop (i + 1) xs
drop_more [] i d lt = absurd (let z : ⊥ = omega (arith, lt) in z)
drop_more (x ∷ xs) zero d lt = refl
drop_more (x ∷ xs) (suc i) d lt = drop_more xs i d (omega (arith, lt)) ∙ ap (λ (k : ℕ). get_or xs i d ∷ drop k (x ∷ xs)) (more i)
  where
    more : (i : ℕ) → suc (i + 1) ≡ suc i + 1
    more i = omega arith

-- the file that an item is
item_file : (held : Map (List ℕ)) (items : Items) (q : Name) → Option Item → Option FileEntry
item_file held items q o = as_file (option_map (entry_over held no_files) o)

-- a file of the machine has the head and the hash that are printed
file_lines : (held : Map (List ℕ)) (items : Items) (q : Name) (h : FileHead) (content : Content) → AreRight items → IsScanned held items → get items q ≡ Some (Head h content)
    → (former : List ℕ) → (let f : FileEntry = with_bytes h (content_bytes held no_files (file_name h.shown) content) in path_lines former f.shown ++ details f) ≡ head_lines (machine_in held items) former h
file_lines held items q h content right there at former =
    let bytes : List ℕ = content_bytes held no_files (file_name h.shown) content in
    let named : file_name h.shown ≡ q = (right q (Head h content) at).named in
    let long : length bytes ≡ h.length = there q (Head h content) at in
    let head : head_of (with_bytes h bytes) ≡ h = λ i. record { shown = h.shown; version = h.version; languages = h.languages; created = h.created; modified = h.modified; attributes = h.attributes; length = long i } in
    let held_there : bytes_of_file (get (machine_in held items) (file_name h.shown)) ≡ bytes =
    ap (λ (n : Name). bytes_of_file (get (machine_in held items) n)) named ∙ ap bytes_of_file (get_over held no_files items q) ∙ ap (λ (o : Option Item). bytes_of_file (option_map (entry_over held no_files) o)) at in
    λ i. path_lines former h.shown ++ head_details (head i) (md5 (sym held_there i))

-- an item that stands whole isn't a file
not_file : (items : Items) (q : Name) (e : Entry) → AreRight items → get items q ≡ Some (Whole e) → as_file (Some e) ≡ None
not_file items q (entry.File f) right at = let split : false ≡ true = (right q (Whole (entry.File f)) at).split in absurd cc
not_file items q (entry.Folder t) right at = refl
not_file items q (entry.Value k v) right at = refl
not_file items q (entry.Key r t) right at = refl
not_file items q (entry.Shortcut t) right at = refl
not_file items q (entry.Variable t) right at = refl
not_file items q (entry.Client t) right at = refl
not_file items q (entry.Product t) right at = refl
not_file items q (entry.System p t) right at = refl

module _ (held : Map (List ℕ)) (items : Items) (right : AreRight items) (there : IsScanned held items) where
  abbrev the : Machine
  the = machine_in held items

  abbrev file_at_name : Name → Option FileEntry
  file_at_name q = as_file (get the q)

  abbrev head_at_name : Name → Option FileHead
  head_at_name q = head_in (get items q)

  file_is : (q : Name) (o : Option Item) → get items q ≡ o → file_at_name q ≡ as_file (option_map (entry_over held no_files) o)
  file_is q o at = ap as_file (get_over held no_files items q ∙ ap (option_map (entry_over held no_files)) at)

  files_step : (former : List ℕ) (q : Name) (names : List Name) → ((f : List ℕ) → tree f (filter_map file_at_name names) ≡ heads_tree the f (filter_map head_at_name names)) → (o : Option Item) → get items q ≡ o
      → tree former (filter_map file_at_name (q ∷ names)) ≡ heads_tree the former (filter_map head_at_name (q ∷ names))
  unfolding tree heads_tree
  files_step former q names rest None at =
      ap (tree former) (ap (λ (o : Option FileEntry). cons_option o (filter_map file_at_name names)) (file_is q None at))
      ∙ rest former
      ∙ sym (ap (heads_tree the former) (ap (λ (o : Option FileHead). cons_option o (filter_map head_at_name names)) (ap head_in at)))
  files_step former q names rest (Some (Whole e)) at =
      ap (tree former) (ap (λ (o : Option FileEntry). cons_option o (filter_map file_at_name names)) (file_is q (Some (Whole e)) at ∙ not_file items q e right at))
      ∙ rest former
      ∙ sym (ap (heads_tree the former) (ap (λ (o : Option FileHead). cons_option o (filter_map head_at_name names)) (ap head_in at)))
  files_step former q names rest (Some (Head h content)) at =
      ap (tree former) (ap (λ (o : Option FileEntry). cons_option o (filter_map file_at_name names)) (file_is q (Some (Head h content)) at))
      ∙ (λ i. file_lines held items q h content right there at former i ++ rest h.shown i)
      ∙ sym (ap (heads_tree the former) (ap (λ (o : Option FileHead). cons_option o (filter_map head_at_name names)) (ap head_in at)))

  pub files_are_heads : (former : List ℕ) (names : List Name) → tree former (filter_map file_at_name names) ≡ heads_tree the former (filter_map head_at_name names)
  unfolding tree heads_tree
  files_are_heads former [] = refl
  files_are_heads former (q ∷ names) = files_step former q names (λ f. files_are_heads f names) (get items q) refl

-- ---- the loop over the heads

abbrev now_of : Bor (List ℕ) → List ℕ
now_of n = n.now

heads_step : (m : Machine) (former : List ℕ) (o : Option FileHead) (hs : List FileHead) → heads_tree m former (cons_option o hs) ≡ lines_after m former o ++ heads_tree m (path_after former o) hs
unfolding heads_tree
heads_step m former None hs = refl
heads_step m former (Some h) hs = refl

heads_end : (m : Machine) (former : List ℕ) → heads_tree m former [] ≡ []
unfolding heads_tree
heads_end m former = refl

pub tree_step : (m : Machine) (items : Items) (names : List (Bor (List ℕ))) (i : ℕ) (d : Bor (List ℕ)) (former now : List ℕ) (head : Option FileHead) (out more start : List ℕ)
    → i < length names → head ≡ head_in (get items (get_or names i d).now) → now ≡ path_after former head → more ≡ out ++ lines_after m former head
    → out ++ heads_tree m former (heads_of items (map now_of (drop i names))) ≡ start
    → more ++ heads_tree m now (heads_of items (map now_of (drop (i + 1) names))) ≡ start
tree_step m items names i d former now head out more start lt is path text so =
    let rest : List FileHead = heads_of items (map now_of (drop (i + 1) names)) in
    let heads : heads_of items (map now_of (drop i names)) ≡ cons_option head rest =
    ap (λ (ns : List (Bor (List ℕ))). heads_of items (map now_of ns)) (drop_more names i d lt) ∙ ap (λ (o : Option FileHead). cons_option o rest) (sym is) in
    (λ j. text j ++ heads_tree m (path j) rest)
    ∙ append_assoc out (lines_after m former head) (heads_tree m (path_after former head) rest)
    ∙ ap (λ (l : List ℕ). out ++ l) (sym (ap (heads_tree m former) heads ∙ heads_step m former head rest))
    ∙ so

pub tree_done : (m : Machine) (items : Items) (names : List (Bor (List ℕ))) (i : ℕ) (former out start : List ℕ) → length names ≤ i
    → out ++ heads_tree m former (heads_of items (map now_of (drop i names))) ≡ start → out ≡ start
tree_done m items names i former out start le so =
    sym (ap (λ (ns : List (Bor (List ℕ))). out ++ heads_tree m former (heads_of items (map now_of ns))) (drop_all names i le) ∙ ap (λ (l : List ℕ). out ++ l) (heads_end m former) ∙ append-nil out) ∙ so
  where
    drop_all : {X : Type 0} → (xs : List X) (i : ℕ) → length xs ≤ i → drop i xs ≡ []
    drop_all [] zero le = refl
    drop_all [] (suc i) le = refl
    drop_all (x ∷ xs) zero le = absurd (let z : ⊥ = omega (arith, le) in z)
    drop_all (x ∷ xs) (suc i) le = drop_all xs i (omega (arith, le))

-- ---- the machine of an image, and the same but for the bytes of files

-- what stands at a name, where that isn't a file
pub plain_at : {Y : Type 0} → (kind : Option Entry → Y) → ((f : FileEntry) → kind (Some (entry.File f)) ≡ kind None) → (held : Map (List ℕ)) (items : Items) (q : Name)
    → kind (get (plain_machine items) q) ≡ kind (get (machine_in held items) q)
plain_at kind known held items q = sym (whole_at kind known no_files items q) ∙ whole_at kind known held items q

over_keys : (held files : Map (List ℕ)) (items : Items) → keys (machine_over held files items) ≡ keys items
unfolding machine_over
over_keys held files items = keys-map_values (entry_over held files) items

pub plain_keys : (held : Map (List ℕ)) (items : Items) → keys (plain_machine items) ≡ keys (machine_in held items)
plain_keys held items = over_keys no_files no_files items ∙ sym (over_keys held no_files items)

flat_same : {X : Type 0} → (f g : X → List ℕ) (xs : List X) → ((x : X) → f x ≡ g x) → flat_map f xs ≡ flat_map g xs
flat_same f g [] same = refl
flat_same f g (x ∷ xs) same = λ i. same x i ++ flat_same f g xs same i

module _ (held : Map (List ℕ)) (items : Items) where
  abbrev plain : Machine
  plain = plain_machine items

  abbrev whole : Machine
  whole = machine_in held items

  names_same : (front : Name) → names_of front plain ≡ names_of front whole
  names_same front = ap (λ (qs : List Name). filter (λ q. starts_with nat_eq q front) qs) (plain_keys held items)

  pub lines_same : (front : Name) → lines front plain ≡ lines front whole
  lines_same front =
      flat_same (λ q. codes "  " ++ other_at (get plain q)) (λ q. codes "  " ++ other_at (get whole q)) (names_of front plain) (λ q. ap (λ (l : List ℕ). codes "  " ++ l) (plain_at other_at other_file held items q))
      ∙ ap (flat_map (λ q. codes "  " ++ other_at (get whole q))) (names_same front)

  values_same : (root : ℕ) (key : List ℕ) → flat_map (λ q. exported_at (get plain q)) (values_of root key plain) ≡ flat_map (λ q. exported_at (get whole q)) (values_of root key whole)
  values_same root key =
      flat_same (λ q. exported_at (get plain q)) (λ q. exported_at (get whole q)) (values_of root key plain) (λ q. plain_at exported_at (λ f. refl) held items q)
      ∙ ap (flat_map (λ q. exported_at (get whole q))) (names_same (value_front root (length (folded key)) (folded key)))

  key_same : (o : Option Entry) → key_with_values plain o ≡ key_with_values whole o
  key_same None = refl
  key_same (Some (entry.File f)) = refl
  key_same (Some (entry.Folder t)) = refl
  key_same (Some (entry.Value k v)) = refl
  key_same (Some (entry.Key root shown)) = ap (λ (l : List ℕ). key_line root shown ++ l ++ 10 ∷ []) (values_same root shown)
  key_same (Some (entry.Shortcut t)) = refl
  key_same (Some (entry.Variable t)) = refl
  key_same (Some (entry.Client t)) = refl
  key_same (Some (entry.Product t)) = refl
  key_same (Some (entry.System p t)) = refl

  stray_same : (o : Option Entry) → stray_at plain o ≡ stray_at whole o
  stray_same None = refl
  stray_same (Some (entry.File f)) = refl
  stray_same (Some (entry.Folder t)) = refl
  stray_same (Some (entry.Value k v)) = ap (λ (o : Option (List ℕ)). cond (is_none o) (stray k.root k.key k.shown v) []) (plain_at as_key (λ f. refl) held items (key_name k.root k.key))
  stray_same (Some (entry.Key root shown)) = refl
  stray_same (Some (entry.Shortcut t)) = refl
  stray_same (Some (entry.Variable t)) = refl
  stray_same (Some (entry.Client t)) = refl
  stray_same (Some (entry.Product t)) = refl
  stray_same (Some (entry.System p t)) = refl

  registry_same : registry plain ≡ registry whole
  unfolding registry
  registry_same =
      let key_of : (q : Name) → key_with_values plain (get plain q) ≡ key_with_values whole (get whole q) = λ q. key_same (get plain q) ∙ plain_at (key_with_values whole) (λ f. refl) held items q in
      let stray_of : (q : Name) → stray_at plain (get plain q) ≡ stray_at whole (get whole q) = λ q. stray_same (get plain q) ∙ plain_at (stray_at whole) (λ f. refl) held items q in
      let first = flat_same (λ q. key_with_values plain (get plain q)) (λ q. key_with_values whole (get whole q)) (names_of (codes "k/") plain) key_of ∙ ap (flat_map (λ q. key_with_values whole (get whole q))) (names_same (codes "k/")) in
      let second = flat_same (λ q. stray_at plain (get plain q)) (λ q. stray_at whole (get whole q)) (names_of (codes "v/") plain) stray_of ∙ ap (flat_map (λ q. stray_at whole (get whole q))) (names_same (codes "v/")) in
      λ i. codes "Windows Registry Editor Version 5.00\n\n" ++ first i ++ second i

  pub others_same : others plain ≡ others whole
  unfolding others
  others_same =
      λ i. section (codes "Folders") (lines_same (codes "d/") i) ++ section (codes "Registry") (registry_same i) ++ section (codes "Shortcuts") (lines_same (codes "s/") i)
      ++ section (codes "Environment") (lines_same (codes "n/") i) ++ section (codes "Clients") (lines_same (codes "c/") i) ++ section (codes "System") (lines_same (codes "y/") i)

-- ---- texts one behind the other

pub three : (o a b c : List ℕ) → o ++ a ++ b ++ c ≡ o ++ (a ++ b ++ c)
three o a b c = ap (λ (l : List ℕ). l ++ c) (append_assoc o a b) ∙ append_assoc o (a ++ b) c

pub shown_of : (held : Map (List ℕ)) (items : Items) (text : List ℕ) → IsOkAnd (machine_of held) (ImageOf held no_files items) → (IsScanned held items → text ≡ shown (machine_in held items)) → IsOkAnd (machine_of held) (λ m. text ≡ shown m)
shown_of held items text is say = by_result (machine_of held) is
  where
    by_result : (r : Result Machine Name) → IsOkAnd r (ImageOf held no_files items) → IsOkAnd r (λ m. text ≡ shown m)
    by_result (Ok m) of = say of.there ∙ ap shown of.stands
    by_result (Err n) of = absurd of
