-- What single steps leave.
use Rattle.std.proofs.Common.{◌≡◌, ℕ, Bool, true, false, cond, List, [], ◌∷◌, ◌++◌, map, take, length, get_or, ◌<◌, ◌+◌, Option, Some, None, Bor, refl, sym, ap, subst, ◌∙◌}
use Rattle.std.proofs.Common.{arith}
use Rattle.std.proofs.Math.ListN.{get_or-map}
use Rattle.std.proofs.lemmas.List.{map-append, take_more, length-map, get_or_default}
use Rattle.std.specs.List.{filter_map}
use Rattle.std.proofs.lemmas.List.Folds.{list_any_at}
use Rattle.std.specs.Option.{option_copied, option_to_list}
use Rattle.std.specs.Str.{bytes_eq}
use Rattle.std.specs.Prelude.{option_map, is_some, not, ◌&&◌}
use Rattle.std.specs.FinMap.{get, keys}
use Rattle.mi_text.specs.Maps.{Name, Map, set_to, same_name, is_among}
use Rattle.mi_text.proofs.MapLemmas.{get-map_values, keys-map_values, among-keys, same_itself}
use Rattle.mi_base.specs.declared.entry.FileHead.{FileHead}
use Rattle.mi_base.specs.declared.entry.Entry.{Entry}
use Rattle.mi_base.specs.declared.entry.Entry.TheVariants as entry
use Rattle.mi_base.specs.Machine.{Machine, volume_of}
use Rattle.mi_base.specs.Names.{file_name, folder_name, key_name, value_name, shortcut_name, variable_name, client_name, product_name, system_name}
use Rattle.mi_base.specs.Spelling.{name_of, record_of}
use Rattle.mi_source.specs.Paths.{Files}
use Rattle.mi_changes.proofs.TouchLemmas.{map_values-set_to}
use Rattle.mi_image.specs.declared.item.Content.{Content}
use Rattle.mi_image.specs.declared.item.Item.{Item}
use Rattle.mi_image.specs.declared.item.Item.TheVariants.{Head, Whole}
use Rattle.mi_image.proofs.PickLemmas.{picked_step}
use Rattle.mi_image.specs.Items.{Items, entry_over, machine_over, AreRight}
use Rattle.mi_script.specs.declared.rec.Rec.{Rec}
use Rattle.mi_script.specs.declared.rec.Rec.TheVariants.{Put, Drop}
use Rattle.mi_script.specs.Spelled.{is_file_name, same_record}
use Rattle.mi_steps.specs.Follows.{Follows, Grows, put_touch, drop_touch}
use Rattle.mi_steps.specs.Makes.{is_file}
use Rattle.mi_steps.proofs.FollowLemmas.{get-volume_of, set_one, drop_held, joined}

-- ---- the machine that items stand for

pub over-set_to : (held files : Map (List ℕ)) (items : Items) (q : Name) (o : Option Item) → machine_over held files (set_to items q o) ≡ set_to (machine_over held files items) q (option_map (entry_over held files) o)
unfolding machine_over
over-set_to held files items q o = map_values-set_to (entry_over held files) items q o

pub get-over : (held files : Map (List ℕ)) (items : Items) (q : Name) → get (machine_over held files items) q ≡ option_map (entry_over held files) (get items q)
unfolding machine_over
get-over held files items q = get-map_values (entry_over held files) items q

pub keys-over : (held files : Map (List ℕ)) (items : Items) → keys (machine_over held files items) ≡ keys items
unfolding machine_over
keys-over held files items = keys-map_values (entry_over held files) items

pub held-over : (held files : Map (List ℕ)) (items : Items) (q : Name) → is_some (get (machine_over held files items) q) ≡ is_some (get items q)
held-over held files items q = ap is_some (get-over held files items q) ∙ by_item (get items q)
  where
    by_item : (o : Option Item) → is_some (option_map (entry_over held files) o) ≡ is_some o
    by_item None = refl
    by_item (Some i) = refl

-- ---- scripts that grow

pub grows_not : (had : List Rec) → Grows had had
grows_not had = ([], sym (nothing had))
  where
    nothing : (xs : List Rec) → xs ++ [] ≡ xs
    nothing [] = refl
    nothing (x ∷ xs) = ap (λ (ys : List Rec). x ∷ ys) (nothing xs)

pub grows_on : (a b c : List Rec) → Grows a b → Grows b c → Grows a c
grows_on a b c first second = (first.0 ++ second.0, second.1 ∙ ap (λ (x : List Rec). x ++ second.0) first.1 ∙ assoc a first.0 second.0)
  where
    assoc : (x y z : List Rec) → (x ++ y) ++ z ≡ x ++ (y ++ z)
    assoc [] y z = refl
    assoc (r ∷ x) y z = ap (λ (rs : List Rec). r ∷ rs) (assoc x y z)

-- ---- an entry that is put

-- only a file has a file's name
pub no_file_name : (e : Entry) → is_file e ≡ false → is_file_name (name_of e) ≡ false
unfolding folder_name key_name value_name shortcut_name variable_name client_name product_name system_name
no_file_name (entry.File f) plain = absurd cc
no_file_name (entry.Folder t) plain = refl
no_file_name (entry.Value k v) plain = refl
no_file_name (entry.Key r t) plain = refl
no_file_name (entry.Shortcut s) plain = refl
no_file_name (entry.Variable v) plain = refl
no_file_name (entry.Client c) plain = refl
no_file_name (entry.Product p) plain = refl
no_file_name (entry.System p t) plain = refl

pub put_made : (files : Files) (m n : Machine) (had has : List Rec) (q bytes : List ℕ) (e : Entry) → is_file_name q ≡ false → bytes ≡ record_of e
    → has ≡ had ++ cond (same_record (Some bytes) (get (volume_of m) q)) [] (Put q bytes ∷ []) → n ≡ set_to m q (Some e) → Follows files m n had has (put_touch q e ∷ [])
put_made files m n had has q bytes e plain record_is pushed put =
    let stays : Bool = same_record (Some bytes) (get (volume_of m) q) in
    subst (λ x. Follows files m x had has (put_touch q e ∷ [])) (sym put)
    (subst (λ x. Follows files m (set_to m q (Some e)) had x (put_touch q e ∷ [])) (sym pushed)
    (set_one files m had q e (λ old. Some e) stays (Put q bytes) refl
    (ap (λ (x : List ℕ). record { at = q; after = Some x }) record_is)
    (ap (λ (t : Bool). not (t && true) && same_record (Some (record_of e)) (get (volume_of m) q)) plain ∙ ap (λ (x : List ℕ). same_record (Some x) (get (volume_of m) q)) (sym record_is))
    (λ have. refl)))

-- ---- a name that is dropped

pub drop_made : (files : Files) (m n : Machine) (had has : List Rec) (q : Name) → is_some (get m q) ≡ true → has ≡ had ++ Drop q ∷ [] → n ≡ set_to m q None → Follows files m n had has (drop_touch q ∷ [])
drop_made files m n had has q held pushed taken =
    subst (λ x. Follows files m x had has (drop_touch q ∷ [])) (sym taken)
    (subst (λ x. Follows files m (set_to m q None) had x (drop_touch q ∷ [])) (sym pushed) (drop_held files m had q held))

-- one name more of a list
pub one_more : (files : Files) (a b c : Machine) (h i j : List Rec) (names : List Name) (k : ℕ) (x : Name) → k < length names → x ≡ get_or names k x
    → Follows files a b h i (map drop_touch (take k names)) → Follows files b c i j (drop_touch x ∷ []) → Follows files a c h j (map drop_touch (take (k + 1) names))
one_more files a b c h i j names k x within is so_far one =
    let more : take (k + 1) names ≡ take k names ++ x ∷ [] = take_more names k x within ∙ ap (λ (y : Name). take k names ++ y ∷ []) (sym is) in
    subst (λ ts. Follows files a c h j ts) (sym (ap (map drop_touch) more ∙ map-append drop_touch (take k names) (x ∷ [])))
    (joined files a b c h i j (map drop_touch (take k names)) (drop_touch x ∷ []) so_far one)

-- ---- what stands at a name, by its record

pub stands_at : (held files : Map (List ℕ)) (items : Items) (q : Name) (o : Option Item) → get items q ≡ o → get (volume_of (machine_over held files items)) q ≡ option_map record_of (option_map (entry_over held files) o)
stands_at held files items q o is = get-volume_of (machine_over held files items) q ∙ ap (option_map record_of) (get-over held files items q ∙ ap (option_map (entry_over held files)) is)

pub stands_whole : (items : Items) (q : Name) (bytes : List ℕ) (e : Entry) (b : Bool) → get items q ≡ Some (Whole e) → b ≡ bytes_eq bytes (record_of e)
    → (held files : Map (List ℕ)) → same_record (Some bytes) (get (volume_of (machine_over held files items)) q) ≡ b
stands_whole items q bytes e b at is held files = ap (same_record (Some bytes)) (stands_at held files items q (Some (Whole e)) at) ∙ sym is

pub stands_none : (items : Items) (q : Name) (bytes : List ℕ) → get items q ≡ None → (held files : Map (List ℕ)) → same_record (Some bytes) (get (volume_of (machine_over held files items)) q) ≡ false
stands_none items q bytes at held files = ap (same_record (Some bytes)) (stands_at held files items q None at)

is_file_named : (path : List ℕ) → is_file_name (file_name path) ≡ true
unfolding file_name
is_file_named path = refl

-- a head stands at a file's name
pub no_head : (items : Items) (q : Name) (h : FileHead) (content : Content) → AreRight items → is_file_name q ≡ false → get items q ≡ Some (Head h content) → ⊥
no_head items q h content right plain at =
    let clash : true ≡ false = sym (is_file_named h.shown) ∙ ap is_file_name (right q (Head h content) at).named ∙ plain in
    cc

pub held_alike : (o : Option (Bor Item)) (m : Option Item) (b : Bool) → option_copied o ≡ m → is_some o ≡ b → is_some m ≡ b
held_alike None m b is some = ap is_some (sym is) ∙ some
held_alike (Some i) m b is some = ap is_some (sym is) ∙ some

-- the names of an image are held
pub key_held : (items : Items) (names : List (Bor Name)) (i : ℕ) (d : Bor Name) → map (λ n. n.now) names ≡ keys items → i < length names → is_some (get items (get_or names i d).now) ≡ true
key_held items names i d is within =
    let q : Name = (get_or names i d).now in
    let there : i < length (map (λ (n : Bor Name). n.now) names) = omega (arith, length-map names (λ (n : Bor Name). n.now)) in
    among-keys items q ∙ ap (is_among q) (sym is) ∙ list_any_at (same_name q) (map (λ (n : Bor Name). n.now) names) i d.now there (ap (same_name q) (get_or-map (λ (n : Bor Name). n.now) names i d) ∙ same_itself q)

-- what is picked of the names so far, with what is picked of the next one
pub picked_at : {T : Type 0} → (pick : Name → Option T) (names : List (Bor Name)) (i : ℕ) (d : Bor Name) (o p : Option T) (old new : List T) → i < length names → o ≡ pick (get_or names i d).now → o ≡ p
    → old ≡ filter_map pick (map (λ n. n.now) (take i names)) → new ≡ old ++ option_to_list p → new ≡ filter_map pick (map (λ n. n.now) (take (i + 1) names))
picked_at pick names i d o p old new within is found so_far grown =
    picked_step pick names i (get_or names i d) o p old new (get_or_default names i d (get_or names i d) within) within is found so_far grown
