-- The names of the files below a folder, and of those that lie in it.
use Rattle.std.proofs.Common.{◌≡◌, ℕ, Bool, true, false, cond, ◌&&◌, List, [], ◌∷◌, ◌++◌, map, take, length, ◌<◌, ◌+◌, get_or, Option, Some, None, refl, sym, ap, ◌∙◌, eq-eqb, inl, inr}
use Rattle.std.specs.Prelude.{◌⊎◌, filter, nat_eq, option_map, drop, codes}
use Rattle.std.specs.FinMap.{keys, entries}
use Rattle.std.specs.List.{starts_with, list_any}
use Rattle.std.specs.Option.{option_to_list}
use Rattle.std.proofs.lemmas.List.{map-append, take_more}
use Rattle.std.specs.Str.{bytes_eq}
use Rattle.std.proofs.lemmas.Bool.{cases_Bool}
use Rattle.std.proofs.lemmas.Slice.Eq.{bytes_eq-Decides}
use Rattle.mi_text.specs.Fold.{folded}
use Rattle.mi_text.specs.Maps.{Name, Map}
use Rattle.mi_text.specs.Path.{up_to_last, last_part, is_backslash, is_folder_path}
use Rattle.mi_text.proofs.ByteLemmas.{both, and_true}
use Rattle.mi_base.specs.declared.entry.Entry.{Entry}
use Rattle.mi_base.specs.declared.entry.Entry.TheVariants as entry
use Rattle.mi_base.specs.Names.{file_name, folder_name, key_name, value_name, shortcut_name, variable_name, client_name, product_name, system_name}
use Rattle.mi_dirs.specs.Places.{Folder}
use Rattle.mi_image.specs.Items.{Items, machine_over, AreRight}
use Rattle.mi_image.specs.Lists.{path_below, shown_file, files_under}
use Rattle.mi_model.specs.Texts.{Text}
use Rattle.mi_model.specs.Patterns.{has_pattern}
use Rattle.mi_model.specs.RemoveFiles.{lies_in}
use Rattle.mi_records.proofs.SeatLemmas.{Stands, each_stands, names_told}
use Rattle.mi_files.specs.Taking.{takes}

-- ---- a text begins with what stands up to its last backslash

same_byte : (b : ℕ) → nat_eq b b ≡ true
same_byte b = eq-eqb b b refl

begins_up_to : (xs : List ℕ) → starts_with nat_eq xs (up_to_last xs) ≡ true
begins_up_to [] = refl
begins_up_to (b ∷ bs) = elim (list_any is_backslash (b ∷ bs)) as (λ t. starts_with nat_eq (b ∷ bs) (cond t (b ∷ up_to_last bs) []) ≡ true) [
  | true ↦ ap (λ t. t && starts_with nat_eq bs (up_to_last bs)) (same_byte b) ∙ begins_up_to bs
  | false ↦ refl
]

-- ---- the names of the files below a folder

-- a file's name, and a path that begins with the folder's
abbrev is_file_below : Folder → Name → Bool
is_file_below folder q = starts_with nat_eq q (codes "f/") && starts_with nat_eq (drop 2 q) (folded folder)

picked_or : {A B : Type 0} (tell : A → B) (b : Bool) (x : A) → option_map tell (cond b (Some x) None) ≡ cond b (Some (tell x)) None
picked_or tell true x = refl
picked_or tell false x = refl

-- no other entry has a file's name
other_kind : (folder : Folder) (a b : ℕ) (rest q : List ℕ) → a ∷ b ∷ rest ≡ q → nat_eq 102 a ≡ false → None ≡ cond (is_file_below folder q) (Some q) None
other_kind folder a b rest q is other = ap (λ t. cond (t && starts_with nat_eq rest (folded folder)) (Some (a ∷ b ∷ rest)) None) (sym (ap (λ t. t && (nat_eq 47 b && true)) other)) ∙ ap (λ (n : Name). cond (is_file_below folder n) (Some n) None) is

file_told : (folder : Folder) → is_folder_path folder ≡ true → (q : Name) (e : Entry) → Stands q e → option_map file_name (path_below folder (shown_file (Some e))) ≡ cond (is_file_below folder q) (Some q) None
unfolding file_name folder_name key_name value_name shortcut_name variable_name client_name product_name system_name
file_told folder right q (entry.File f) stands =
    picked_or file_name (is_folder_path folder && starts_with nat_eq (folded f.shown) (folded folder)) f.shown
    ∙ ap (λ b. cond (b && starts_with nat_eq (folded f.shown) (folded folder)) (Some (file_name f.shown)) None) right
    ∙ ap (λ (n : Name). cond (is_file_below folder n) (Some n) None) stands.named
file_told folder right q (entry.Folder t) stands = other_kind folder _ _ _ q stands.named refl
file_told folder right q (entry.Value k v) stands = other_kind folder _ _ _ q stands.named refl
file_told folder right q (entry.Key r t) stands = other_kind folder _ _ _ q stands.named refl
file_told folder right q (entry.Shortcut s) stands = other_kind folder _ _ _ q stands.named refl
file_told folder right q (entry.Variable v) stands = other_kind folder _ _ _ q stands.named refl
file_told folder right q (entry.Client c) stands = other_kind folder _ _ _ q stands.named refl
file_told folder right q (entry.Product p) stands = other_kind folder _ _ _ q stands.named refl
file_told folder right q (entry.System p t) stands = other_kind folder _ _ _ q stands.named refl

files_told : (folder : Folder) → is_folder_path folder ≡ true → (held files : Map (List ℕ)) (items : Items) → AreRight items → map file_name (files_under (machine_over held files items) folder) ≡ filter (is_file_below folder) (keys (machine_over held files items))
unfolding files_under
files_told folder right held files items stand = names_told (λ e. path_below folder (shown_file (Some e))) file_name (is_file_below folder) (entries (machine_over held files items)) (file_told folder right) (each_stands held files items stand)

-- ---- names that pass two tests, of which the one is in the other

filter_within : (p r : Name → Bool) → ((q : Name) → p q ≡ true → r q ≡ true) → (names : List Name) → filter p (filter r names) ≡ filter p names
filter_within p r within [] = refl
filter_within p r within (q ∷ names) = elim (cases_Bool (r q)) [
  | inl on ↦ ap (λ b. filter p (cond b (q ∷ filter r names) (filter r names))) on ∙ ap (λ (ns : List Name). cond (p q) (q ∷ ns) ns) (filter_within p r within names)
  | inr off ↦ ap (λ b. filter p (cond b (q ∷ filter r names) (filter r names))) off ∙ filter_within p r within names ∙ sym (ap (λ b. cond b (q ∷ filter p names) (filter p names)) (not_p (cases_Bool (p q)) off))
]
  where
    not_p : (p q ≡ true) ⊎ (p q ≡ false) → r q ≡ false → p q ≡ false
    not_p (inl on) other = let clash : true ≡ false = sym (within q on) ∙ other in cc
    not_p (inr off) other = off

-- what lies in a folder is below it
lies_below : (folder : Folder) (pattern : Text) (q : Name) → lies_in folder pattern q ≡ true → is_file_below folder q ≡ true
lies_below folder pattern q lies =
    let one = both _ _ lies in
    let two = both _ _ one.0 in
    let front : up_to_last (drop 2 q) ≡ folded folder = (bytes_eq-Decides (up_to_last (drop 2 q)) (folded folder)).0 two.1 in
    and_true _ _ two.0 (ap (starts_with nat_eq (drop 2 q)) (sym front) ∙ begins_up_to (drop 2 q))

-- so what goes of a folder's files goes of all that is held
pub taken_are : (guarded : Name → Bool) (local : Bool) (folder : Folder) (pattern : Text) → is_folder_path folder ≡ true → (held files : Map (List ℕ)) (items : Items) → AreRight items
    → filter (takes guarded local folder pattern) (map file_name (files_under (machine_over held files items) folder)) ≡ filter (takes guarded local folder pattern) (keys (machine_over held files items))
taken_are guarded local folder pattern right held files items stand =
    ap (filter (takes guarded local folder pattern)) (files_told folder right held files items stand)
    ∙ filter_within (takes guarded local folder pattern) (is_file_below folder) (λ q goes. lies_below folder pattern q (both _ _ goes).0) (keys (machine_over held files items))

-- ---- the names that pass so far, with the next one

filter-append : (p : Name → Bool) (xs ys : List Name) → filter p (xs ++ ys) ≡ filter p xs ++ filter p ys
filter-append p [] ys = refl
filter-append p (x ∷ xs) ys = elim (p x) as (λ b. cond b (x ∷ filter p (xs ++ ys)) (filter p (xs ++ ys)) ≡ cond b (x ∷ filter p xs) (filter p xs) ++ filter p ys) [
  | true ↦ ap (λ (ns : List Name). x ∷ ns) (filter-append p xs ys)
  | false ↦ filter-append p xs ys
]

one_passed : (b : Bool) (q : Name) → option_to_list (cond b (Some q) None) ≡ cond b (q ∷ []) []
one_passed true q = refl
one_passed false q = refl

pub passed_one : {X : Type 0} (p : Name → Bool) (tell : X → Name) (xs : List X) (k : ℕ) (x : X) (o : Option Name) (old new : List Name) → k < length xs → x ≡ get_or xs k x → o ≡ cond (p (tell x)) (Some (tell x)) None → old ≡ filter p (map tell (take k xs)) → new ≡ old ++ option_to_list o
    → new ≡ filter p (map tell (take (k + 1) xs))
passed_one {X} p tell xs k x o old new within is found so_far grown =
    grown
    ∙ ap (λ (l : List Name). l ++ option_to_list o) so_far
    ∙ ap (λ (l : List Name). filter p (map tell (take k xs)) ++ l) (ap option_to_list found ∙ one_passed (p (tell x)) (tell x))
    ∙ sym (filter-append p (map tell (take k xs)) (tell x ∷ []))
    ∙ ap (filter p) (sym (map-append tell (take k xs) (x ∷ [])) ∙ ap (map tell) (sym (take_more xs k x within ∙ ap (λ (y : X). take k xs ++ y ∷ []) (sym is))))

-- ---- one file

-- it lies in the folder
pub lies_told : (folder : Folder) (pattern : Text) (path front : List ℕ) (b : Bool) → front ≡ folded folder → b ≡ (bytes_eq (up_to_last (folded path)) front && has_pattern pattern (last_part (folded path))) → b ≡ lies_in folder pattern (file_name path)
unfolding file_name
lies_told folder pattern path front b at is = is ∙ ap (λ (f : List ℕ). bytes_eq (up_to_last (folded path)) f && has_pattern pattern (last_part (folded path))) at

pub lying : (lies may : Bool) (q : Name) → lies ≡ true → cond may (Some q) None ≡ cond (lies && may) (Some q) None
lying lies may q is = sym (ap (λ b. cond (b && may) (Some q) None) is)

pub not_lying : (lies may : Bool) (q : Name) → lies ≡ false → None ≡ cond (lies && may) (Some q) None
not_lying lies may q is = sym (ap (λ b. cond (b && may) (Some q) None) is)
