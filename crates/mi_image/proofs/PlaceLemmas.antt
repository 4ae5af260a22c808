-- Files, folders, shortcuts and keys below a place.
use Rattle.std.proofs.Common.{◌≡◌, ℕ, ◌+◌, ◌<◌, Bool, true, false, cond, eqb, ◌&&◌, ◌||◌, List, [], ◌∷◌, ◌++◌, map, drop, length, get_or, Option, Some, None, Bor, refl, sym, ap, subst, ◌∙◌, append_assoc, eq-eqb, arith}
use Rattle.std.specs.Prelude.{filter, nat_eq, codes, min}
use Rattle.std.specs.List.{starts_with, filter_map, cons_option}
use Rattle.std.specs.Option.{option_to_list}
use Rattle.std.specs.Str.{bytes_eq}
use Rattle.std.specs.Ordering.{ordering_then, is_le}
use Rattle.std.specs.declared.cmp.Ordering.{Ordering}
use Rattle.std.specs.declared.cmp.Ordering.TheVariants.{Greater}
use Rattle.std.specs.Cmp.{tied_itself}
use Rattle.std.specs.FinMap as fin
use Rattle.std.specs.FinMap.{get, entries, is_sorted, get-entries, entries_sorted}
use Rattle.std.specs.FinMap.Entries.{below_all}
use Rattle.std.proofs.lemmas.Bool.{eqb-true, ltb-true}
use Rattle.std.proofs.lemmas.Cmp.{nat_cmp_total}
use Rattle.std.proofs.lemmas.List.{map-append}
use Rattle.std.proofs.lemmas.Slice.Eq.{bytes_eq-Decides}
use Rattle.mi_text.specs.Fold.{folded}
use Rattle.mi_text.specs.Path.{is_folder_path}
use Rattle.mi_text.specs.Maps.{Name, Map, name_cmp, same_name}
use Rattle.mi_text.proofs.ByteLemmas.{both}
use Rattle.mi_text.proofs.MapLemmas.{from_same, same_itself}
use Rattle.mi_base.specs.declared.entry.Entry.{Entry}
use Rattle.mi_base.specs.declared.entry.Entry.TheVariants as entry
use Rattle.mi_base.specs.Limits.{fits}
use Rattle.mi_base.specs.Names.{file_name, folder_name, shortcut_name, key_name}
use Rattle.mi_base.specs.Machine.{as_folder}
use Rattle.mi_image.specs.declared.item.Item.{Item}
use Rattle.mi_image.specs.declared.item.Item.TheVariants.{Head, Whole}
use Rattle.mi_image.specs.Items.{Items, entry_over, machine_over, MayStand, AreRight}
use Rattle.mi_image.specs.Fronts.{key_front}
use Rattle.mi_image.specs.Lists.{picked, path_below, shown_file, shown_shortcut, files_under, folders_under, shortcuts_under, is_in_keys, key_below, keys_under}
use Rattle.mi_image.specs.Picks.{file_in, folder_in, shortcut_in, key_in}
use Rattle.mi_image.proofs.FrontLemmas.{either_test}
use Rattle.mi_image.proofs.ListLemmas.{list_is, no_other, true_of}
use Rattle.mi_image.proofs.PrefixLemmas.{starts_is, starts_behind}
use Rattle.mi_image.proofs.ScanLemmas.{head_first, apart}

-- where nothing is picked of any entry
none_picked : {Y : Type 0} → (pick : Entry → Option Y) → ((e : Entry) → pick e ≡ None) → (es : List (Name × Entry)) → [] ≡ filter_map (λ e. pick e.1) es
none_picked pick none [] = refl
none_picked pick none (e ∷ es) = none_picked pick none es ∙ ap (λ (o : Option _). cons_option o (filter_map (λ (e : Name × Entry). pick e.1) es)) (sym (none e.1))

-- ---- paths below a folder

-- what is picked of an item is the path of what it stands for, and its name is this kind's of the path
abbrev IsPlaced : (held files : Map (List ℕ)) → List ℕ → (Item → Option (List ℕ)) → (Option Entry → Option (List ℕ)) → Type 0
IsPlaced held files kind of_item path = (q : Name) (i : Item) → MayStand q i → (of_item i ≡ path (Some (entry_over held files i))) × ((t : List ℕ) → of_item i ≡ Some t → q ≡ kind ++ folded t)

placed : (held files : Map (List ℕ)) (items : Items) (folder kind : List ℕ) (of_item : Item → Option (List ℕ)) (path : Option Entry → Option (List ℕ)) → is_folder_path folder ≡ true → AreRight items → IsPlaced held files kind of_item path
    → filter_map of_item (map (λ e. e.1) (filter (λ e. starts_with nat_eq e.0 (kind ++ folded folder)) (entries items))) ≡ picked (λ e. path_below folder (path (Some e))) (machine_over held files items)
placed held files items folder kind of_item path is_folder right places = list_is held files items (λ e. starts_with nat_eq e.0 (kind ++ folded folder)) of_item (λ e. path_below folder (path (Some e))) right
    (λ q i may. let p = places q i may in by_path q i (of_item i) p.1 refl ∙ ap (path_below folder) p.0)
  where
    by_path : (q : Name) (i : Item) (o : Option (List ℕ)) → ((t : List ℕ) → of_item i ≡ Some t → q ≡ kind ++ folded t) → of_item i ≡ o → cond (starts_with nat_eq q (kind ++ folded folder)) (of_item i) None ≡ path_below folder (of_item i)
    by_path q i None named is = ap (λ (o : Option (List ℕ)). cond (starts_with nat_eq q (kind ++ folded folder)) o None) is ∙ no_other (starts_with nat_eq q (kind ++ folded folder)) ∙ sym (ap (path_below folder) is)
    by_path q i (Some t) named is =
        ap (λ (o : Option (List ℕ)). cond (starts_with nat_eq q (kind ++ folded folder)) o None) is
        ∙ ap (λ (b : Bool). cond b (Some t) None) (ap (λ (n : Name). starts_with nat_eq n (kind ++ folded folder)) (named t is) ∙ starts_behind kind (folded t) (folded folder))
        ∙ ap (λ (b : Bool). cond (b && starts_with nat_eq (folded t) (folded folder)) (Some t) None) (sym is_folder)
        ∙ sym (ap (path_below folder) is)

-- what is found below a folder, and none below what isn't one
paths_are : (held files : Map (List ℕ)) (items : Items) (folder kind : List ℕ) (of_item : Item → Option (List ℕ)) (path : Option Entry → Option (List ℕ)) → (is_folder_path folder ≡ true → AreRight items) → IsPlaced held files kind of_item path
    → cond (is_folder_path folder) (filter_map of_item (map (λ e. e.1) (filter (λ e. starts_with nat_eq e.0 (kind ++ folded folder)) (entries items)))) [] ≡ picked (λ e. path_below folder (path (Some e))) (machine_over held files items)
paths_are held files items folder kind of_item path right places = elim (is_folder_path folder) as (λ b. is_folder_path folder ≡ b → cond b (filter_map of_item (map (λ e. e.1) (filter (λ e. starts_with nat_eq e.0 (kind ++ folded folder)) (entries items)))) [] ≡ picked (λ e. path_below folder (path (Some e))) (machine_over held files items)) [
  | true ↦ λ b. placed held files items folder kind of_item path b (right b) places
  | false ↦ λ b. none_picked (λ e. path_below folder (path (Some e))) (λ e. none b (path (Some e))) (entries (machine_over held files items))
] refl
  where
    none : is_folder_path folder ≡ false → (o : Option (List ℕ)) → path_below folder o ≡ None
    none other None = refl
    none other (Some t) = ap (λ (b : Bool). cond (b && starts_with nat_eq (folded t) (folded folder)) (Some t) None) other

-- ---- the three kinds

file_placed : (held files : Map (List ℕ)) → IsPlaced held files (codes "f/") file_in shown_file
unfolding file_name
file_placed held files q (Head h content) may = (refl, λ t is. let same : h.shown ≡ t = cc in sym may.named ∙ ap (λ (p : List ℕ). codes "f/" ++ folded p) same)
file_placed held files q (Whole (entry.File f)) may = let clash : false ≡ true = may.split in absurd cc
file_placed held files q (Whole (entry.Folder t)) may = (refl, λ t is. absurd cc)
file_placed held files q (Whole (entry.Value k v)) may = (refl, λ t is. absurd cc)
file_placed held files q (Whole (entry.Key r t)) may = (refl, λ t is. absurd cc)
file_placed held files q (Whole (entry.Shortcut s)) may = (refl, λ t is. absurd cc)
file_placed held files q (Whole (entry.Variable v)) may = (refl, λ t is. absurd cc)
file_placed held files q (Whole (entry.Client c)) may = (refl, λ t is. absurd cc)
file_placed held files q (Whole (entry.Product p)) may = (refl, λ t is. absurd cc)
file_placed held files q (Whole (entry.System p t)) may = (refl, λ t is. absurd cc)

folder_placed : (held files : Map (List ℕ)) → IsPlaced held files (codes "d/") folder_in as_folder
unfolding folder_name
folder_placed held files q (Whole (entry.Folder p)) may = (refl, λ t is. let same : p ≡ t = cc in sym may.named ∙ ap (λ (p : List ℕ). codes "d/" ++ folded p) same)
folder_placed held files q (Head h content) may = (refl, λ t is. absurd cc)
folder_placed held files q (Whole (entry.File f)) may = let clash : false ≡ true = may.split in absurd cc
folder_placed held files q (Whole (entry.Value k v)) may = (refl, λ t is. absurd cc)
folder_placed held files q (Whole (entry.Key r t)) may = (refl, λ t is. absurd cc)
folder_placed held files q (Whole (entry.Shortcut s)) may = (refl, λ t is. absurd cc)
folder_placed held files q (Whole (entry.Variable v)) may = (refl, λ t is. absurd cc)
folder_placed held files q (Whole (entry.Client c)) may = (refl, λ t is. absurd cc)
folder_placed held files q (Whole (entry.Product p)) may = (refl, λ t is. absurd cc)
folder_placed held files q (Whole (entry.System p t)) may = (refl, λ t is. absurd cc)

shortcut_placed : (held files : Map (List ℕ)) → IsPlaced held files (codes "s/") shortcut_in shown_shortcut
unfolding shortcut_name
shortcut_placed held files q (Whole (entry.Shortcut s)) may = (refl, λ t is. let same : s.shown ≡ t = cc in sym may.named ∙ ap (λ (p : List ℕ). codes "s/" ++ folded p) same)
shortcut_placed held files q (Head h content) may = (refl, λ t is. absurd cc)
shortcut_placed held files q (Whole (entry.File f)) may = let clash : false ≡ true = may.split in absurd cc
shortcut_placed held files q (Whole (entry.Folder t)) may = (refl, λ t is. absurd cc)
shortcut_placed held files q (Whole (entry.Value k v)) may = (refl, λ t is. absurd cc)
shortcut_placed held files q (Whole (entry.Key r t)) may = (refl, λ t is. absurd cc)
shortcut_placed held files q (Whole (entry.Variable v)) may = (refl, λ t is. absurd cc)
shortcut_placed held files q (Whole (entry.Client c)) may = (refl, λ t is. absurd cc)
shortcut_placed held files q (Whole (entry.Product p)) may = (refl, λ t is. absurd cc)
shortcut_placed held files q (Whole (entry.System p t)) may = (refl, λ t is. absurd cc)

-- what the call that is common to the three gives
abbrev Below : Items → List ℕ → List ℕ → (Item → Option (List ℕ)) → List (List ℕ)
Below items folder kind of_item = cond (is_folder_path folder) (filter_map of_item (map (λ e. e.1) (filter (λ e. starts_with nat_eq e.0 (kind ++ folded folder)) (entries items)))) []

pub files_are : (held files : Map (List ℕ)) (items : Items) (folder : List ℕ) → (is_folder_path folder ≡ true → AreRight items) → Below items folder (codes "f/") file_in ≡ files_under (machine_over held files items) folder
unfolding files_under
files_are held files items folder right = paths_are held files items folder (codes "f/") file_in shown_file right (file_placed held files)

pub folders_are : (held files : Map (List ℕ)) (items : Items) (folder : List ℕ) → (is_folder_path folder ≡ true → AreRight items) → Below items folder (codes "d/") folder_in ≡ folders_under (machine_over held files items) folder
unfolding folders_under
folders_are held files items folder right = paths_are held files items folder (codes "d/") folder_in as_folder right (folder_placed held files)

pub shortcuts_are : (held files : Map (List ℕ)) (items : Items) (folder : List ℕ) → (is_folder_path folder ≡ true → AreRight items) → Below items folder (codes "s/") shortcut_in ≡ shortcuts_under (machine_over held files items) folder
unfolding shortcuts_under
shortcuts_are held files items folder right = paths_are held files items folder (codes "s/") shortcut_in shown_shortcut right (shortcut_placed held files)

-- ---- a name, and what begins with it and a backslash

-- of names in order one is this one
only_one : {X : Type 0} → (n : Name) (es : List (Name × X)) → is_sorted name_cmp es ≡ true → map (λ e. e.1) (filter (λ e. same_name n e.0) es) ≡ option_to_list (fin.find name_cmp n es)
only_one n [] sorted = refl
only_one {X} n (e ∷ es) sorted =
    let parts = both (below_all name_cmp e.0 es) (is_sorted name_cmp es) sorted in
    let rest = only_one n es parts.1 in
    elim (same_name n e.0) as (λ b. same_name n e.0 ≡ b → map (λ (e : Name × X). e.1) (cond b (e ∷ filter (λ e. same_name n e.0) es) (filter (λ e. same_name n e.0) es)) ≡ option_to_list (cond b (Some e.1) (fin.find name_cmp n es))) [
      | true ↦ λ b. ap (λ (xs : List X). e.1 ∷ xs) (rest ∙ ap option_to_list (no_more (fin.find name_cmp n es) refl parts.0 b))
      | false ↦ λ b. rest
    ] refl
  where
    no_more : (o : Option X) → fin.find name_cmp n es ≡ o → below_all name_cmp e.0 es ≡ true → same_name n e.0 ≡ true → o ≡ None
    no_more None at low b = refl
    no_more (Some x) at low b = let other = apart e.0 n (head_first e.0 n es x low at) in absurd (let clash : true ≡ false = sym b ∙ other in cc)

longer_behind : (n : List ℕ) (b : ℕ) (rest : List ℕ) → name_cmp (n ++ b ∷ rest) n ≡ Greater
longer_behind [] b rest = refl
longer_behind (x ∷ n) b rest = ap (λ (o : Ordering). ordering_then o (name_cmp (n ++ b ∷ rest) n)) (tied_itself nat_cmp_total x) ∙ longer_behind n b rest

comes_first : (n x y : Name) → is_le (name_cmp x y) ≡ true → starts_with nat_eq x (n ++ 92 ∷ []) ≡ true → same_name n y ≡ true → ⊥
comes_first n x y up begins same =
    let rest : List ℕ = drop (length (n ++ 92 ∷ [])) x in
    let x_is : x ≡ n ++ 92 ∷ rest = starts_is x (n ++ 92 ∷ []) begins ∙ append_assoc n (92 ∷ []) rest in
    let over : name_cmp x y ≡ Greater = ap (λ (k : Name). name_cmp k y) x_is ∙ ap (name_cmp (n ++ 92 ∷ rest)) (sym (from_same n y same)) ∙ longer_behind n 92 rest in
    let clash : false ≡ true = sym (ap is_le over) ∙ up in absurd cc

pub found_with_below : (items : Items) (name : Name) (one below all : List (Bor Item)) (o : Option Item) → o ≡ get items name → map (λ i. i.now) one ≡ option_to_list o
    → map (λ i. i.now) below ≡ map (λ e. e.1) (filter (λ e. starts_with nat_eq e.0 (name ++ 92 ∷ [])) (entries items)) → all ≡ one ++ below
    → map (λ i. i.now) all ≡ map (λ e. e.1) (filter (λ e. same_name name e.0 || starts_with nat_eq e.0 (name ++ 92 ∷ [])) (entries items))
found_with_below items name one below all o at one_is below_is all_is =
    let sorted = true_of _ (entries_sorted items) in
    let second : Name × Item → Item = λ e. e.1 in
    let here : map (λ (i : Bor Item). i.now) one ≡ map second (filter (λ e. same_name name e.0) (entries items)) = one_is ∙ ap option_to_list (at ∙ get-entries items name) ∙ sym (only_one name (entries items) sorted) in
    ap (map (λ (i : Bor Item). i.now)) all_is ∙ map-append (λ (i : Bor Item). i.now) one below
    ∙ ap (λ (xs : List Item). xs ++ map (λ (i : Bor Item). i.now) below) here
    ∙ ap (λ (xs : List Item). map second (filter (λ e. same_name name e.0) (entries items)) ++ xs) below_is
    ∙ sym (map-append second (filter (λ e. same_name name e.0) (entries items)) (filter (λ e. starts_with nat_eq e.0 (name ++ 92 ∷ [])) (entries items)))
    ∙ sym (ap (map second) (either_test (λ q. same_name name q) (λ q. starts_with nat_eq q (name ++ 92 ∷ [])) (comes_first name) (entries items) sorted))

-- ---- keys

same_front : (root : ℕ) (key own : List ℕ) → same_name (key_front root key) (key_front root own) ≡ bytes_eq own key
same_front root key own = elim (bytes_eq own key) as (λ b. bytes_eq own key ≡ b → same_name (key_front root key) (key_front root own) ≡ b) [
  | true ↦ λ b. ap (λ (k : List ℕ). same_name (key_front root key) (key_front root k)) ((bytes_eq-Decides own key).0 b) ∙ same_itself (key_front root key)
  | false ↦ λ b. elim (same_name (key_front root key) (key_front root own)) as (λ t. same_name (key_front root key) (key_front root own) ≡ t → t ≡ false) [
    | true ↦ λ t. let same : own ≡ key = sym (ap (drop 3) (from_same (key_front root key) (key_front root own) t)) in let clash : true ≡ false = sym ((bytes_eq-Decides own key).1 same) ∙ b in absurd cc
    | false ↦ λ t. refl
  ] refl
] refl

-- a name of a key or of one below it, by its root and its key
within_is : (root r : ℕ) (key own : List ℕ) → (same_name (key_front root key) (key_front r own) || starts_with nat_eq (key_front r own) (key_front root key ++ 92 ∷ [])) ≡ (eqb r root && is_in_keys key (key ++ 92 ∷ []) own)
within_is root r key own = elim (eqb r root) as (λ b. eqb r root ≡ b → (same_name (key_front root key) (key_front r own) || starts_with nat_eq (key_front r own) (key_front root key ++ 92 ∷ [])) ≡ (b && is_in_keys key (key ++ 92 ∷ []) own)) [
  | true ↦ λ b. subst (λ (n : ℕ). (same_name (key_front root key) (key_front n own) || starts_with nat_eq (key_front n own) (key_front root key ++ 92 ∷ [])) ≡ is_in_keys key (key ++ 92 ∷ []) own) (sym (eqb-true r root b))
      (ap (λ (t : Bool). t || starts_with nat_eq (key_front root own) (key_front root key ++ 92 ∷ [])) (same_front root key own) ∙ ap (λ (t : Bool). bytes_eq own key || t) (starts_behind (107 ∷ 47 ∷ (48 + root) ∷ []) own (key ++ 92 ∷ [])))
  | false ↦ λ b. ap (λ (t : Bool). t || starts_with nat_eq (key_front r own) (key_front root key ++ 92 ∷ [])) (other_name b) ∙ other_front b
] refl
  where
    other_root : eqb r root ≡ false → 48 + r ≡ 48 + root → ⊥
    other_root b same = let number : r ≡ root = omega (arith, same) in let clash : true ≡ false = sym (eq-eqb r root number) ∙ b in absurd cc

    other_name : eqb r root ≡ false → same_name (key_front root key) (key_front r own) ≡ false
    other_name b = elim (same_name (key_front root key) (key_front r own)) as (λ t. same_name (key_front root key) (key_front r own) ≡ t → t ≡ false) [
      | true ↦ λ t. absurd (other_root b (sym (ap (λ (n : Name). get_or n 2 0) (from_same (key_front root key) (key_front r own) t))))
      | false ↦ λ t. refl
    ] refl

    other_front : eqb r root ≡ false → starts_with nat_eq (key_front r own) (key_front root key ++ 92 ∷ []) ≡ false
    other_front b = elim (starts_with nat_eq (key_front r own) (key_front root key ++ 92 ∷ [])) as (λ t. starts_with nat_eq (key_front r own) (key_front root key ++ 92 ∷ []) ≡ t → t ≡ false) [
      | true ↦ λ t. absurd (other_root b (ap (λ (n : Name). get_or n 2 0) (starts_is (key_front r own) (key_front root key ++ 92 ∷ []) t)))
      | false ↦ λ t. refl
    ] refl

-- no root is greater than 3
low_root : (r root : ℕ) → r < 4 → eqb r (min root 9) ≡ eqb r root
low_root r root small = elim (eqb r root) as (λ b. eqb r root ≡ b → eqb r (min root 9) ≡ b) [
  | true ↦ λ b. let same = eqb-true r root b in let low : r ≡ min root 9 = omega (arith, same, small) in eq-eqb r (min root 9) low
  | false ↦ λ b. elim (eqb r (min root 9)) as (λ t. eqb r (min root 9) ≡ t → t ≡ false) [
    | true ↦ λ t. let low = eqb-true r (min root 9) t in let same : r ≡ root = omega (arith, low, small) in let clash : true ≡ false = sym (eq-eqb r root same) ∙ b in absurd cc
    | false ↦ λ t. refl
  ] refl
] refl

key_root : (r : ℕ) (shown : List ℕ) → fits (entry.Key r shown) ≡ true → r < 4
unfolding fits
key_root r shown fit = ltb-true r 4 (both _ _ fit).0

key_named : (r : ℕ) (shown : List ℕ) (q : Name) → MayStand q (Whole (entry.Key r shown)) → q ≡ key_front r (folded shown)
unfolding key_name
key_named r shown q may = sym may.named

pub keys_are : (held files : Map (List ℕ)) (items : Items) (root : ℕ) (key : List ℕ) (name : Name) → name ≡ key_front (min root 9) (folded key) → AreRight items
    → filter_map key_in (map (λ e. e.1) (filter (λ e. same_name name e.0 || starts_with nat_eq e.0 (name ++ 92 ∷ [])) (entries items))) ≡ keys_under (machine_over held files items) root key
unfolding keys_under
keys_are held files items root key name name_is right = list_is held files items (λ e. within e.0) key_in (key_below root key) right picks
  where
    within : Name → Bool
    within q = same_name name q || starts_with nat_eq q (name ++ 92 ∷ [])

    picks : (q : Name) (i : Item) → MayStand q i → cond (within q) (key_in i) None ≡ key_below root key (entry_over held files i)
    picks q (Whole (entry.Key r t)) may = ap (λ (b : Bool). cond b (Some t) None)
        (ap within (key_named r t q may)
        ∙ ap (λ (n : Name). same_name n (key_front r (folded t)) || starts_with nat_eq (key_front r (folded t)) (n ++ 92 ∷ [])) name_is
        ∙ within_is (min root 9) r (folded key) (folded t)
        ∙ ap (λ (b : Bool). b && is_in_keys (folded key) (folded key ++ 92 ∷ []) (folded t)) (low_root r root (key_root r t may.right)))
    picks q (Head h content) may = no_other (within q)
    picks q (Whole (entry.File f)) may = let clash : false ≡ true = may.split in absurd cc
    picks q (Whole (entry.Folder t)) may = no_other (within q)
    picks q (Whole (entry.Value k v)) may = no_other (within q)
    picks q (Whole (entry.Shortcut s)) may = no_other (within q)
    picks q (Whole (entry.Variable v)) may = no_other (within q)
    picks q (Whole (entry.Client c)) may = no_other (within q)
    picks q (Whole (entry.Product p)) may = no_other (within q)
    picks q (Whole (entry.System p t)) may = no_other (within q)
