-- What look-ups find.
use Rattle.std.proofs.Common.{◌≡◌, ℕ, ◌+◌, ◌<◌, ◌≤◌, true, false, eqb, ◌⊎◌, inl, inr, ⊎_elim, List, [], ◌∷◌, length, get_or, Option, Some, None, refl, sym, ap, subst, ◌∙◌, arith}
use Rattle.std.specs.Prelude.{option_map}
use Rattle.std.specs.FinMap.{get}
use Rattle.std.proofs.lemmas.Bool.{ltb-true}
use Rattle.mi_text.specs.Fold.{folded}
use Rattle.mi_text.proofs.ByteLemmas.{both}
use Rattle.mi_text.specs.Maps.{Name, Map}
use Rattle.mi_text.proofs.MapLemmas.{get-map_values}
use Rattle.mi_base.specs.declared.entry.FileEntry.{FileEntry}
use Rattle.mi_base.specs.declared.entry.FileHead.{FileHead}
use Rattle.mi_base.specs.declared.entry.Entry.{Entry}
use Rattle.mi_base.specs.declared.entry.Entry.TheVariants as entry
use Rattle.mi_base.specs.Limits.{fits}
use Rattle.mi_base.specs.Spelling.{head_of}
use Rattle.mi_base.specs.Names.{file_name, folder_name, key_name, value_name, shortcut_name, variable_name, client_name, product_name, system_name}
use Rattle.mi_base.specs.Records.{with_bytes}
use Rattle.mi_base.specs.Machine.{as_file}
use Rattle.mi_base.proofs.NameLemmas.{name_length}
use Rattle.mi_image.specs.declared.item.Content.{Content}
use Rattle.mi_image.specs.declared.item.Item.{Item}
use Rattle.mi_image.specs.declared.item.Item.TheVariants.{Head, Whole}
use Rattle.mi_image.specs.Items.{Items, content_bytes, entry_over, machine_over, AreThere, item_name, item_fits, is_split, MayStand, AreRight}
use Rattle.mi_image.specs.Lookups.{IsNoName, whole_of}

-- what the machine has at a name
pub get_over : (held files : Map (List ℕ)) (items : Items) (q : Name) → get (machine_over held files items) q ≡ option_map (entry_over held files) (get items q)
unfolding machine_over
get_over held files items q = get-map_values (entry_over held files) items q

-- what isn't a file is known by the entry that stands whole
pub by_item : {Y : Type 0} → (kind : Option Entry → Option Y) → ((f : FileEntry) → kind (Some (entry.File f)) ≡ kind None) → (held files : Map (List ℕ)) (o : Option Item) → kind (whole_of o) ≡ kind (option_map (entry_over held files) o)
by_item kind known held files None = refl
by_item kind known held files (Some (Head h content)) = sym (known _)
by_item kind known held files (Some (Whole e)) = refl

pub over_whole : {Y : Type 0} → (kind : Option Entry → Option Y) → ((f : FileEntry) → kind (Some (entry.File f)) ≡ kind None) → (held files : Map (List ℕ)) (items : Items) (q : Name) → kind (whole_of (get items q)) ≡ kind (get (machine_over held files items) q)
over_whole kind known held files items q = by_item kind known held files (get items q) ∙ ap kind (sym (get_over held files items q))

-- no name is longer than 1,024 bytes
short : (q : Name) (i : Item) → MayStand q i → length q ≤ 1024
short q (Head h content) may = subst (λ (n : Name). length n ≤ 1024) may.named (name_length (entry.File (with_bytes h [])) may.right).1
short q (Whole e) may = subst (λ (n : Name). length n ≤ 1024) may.named (name_length e may.right).1

pub none_there : (items : Items) (q : Name) → AreRight items → (1024 < length q) ⊎ IsNoName q → get items q ≡ None
none_there items q right no_name = by_item (get items q) refl
  where
    by_item : (o : Option Item) → get items q ≡ o → o ≡ None
    by_item None at = refl
    by_item (Some i) at = absurd (⊎_elim (λ long. let n = short q i (right q i at) in omega arith) (λ never. never i (right q i at)) no_name)

-- the letter with which the name of an item begins
abbrev pub letter : Item → ℕ
letter (Head h content) = 102
letter (Whole (entry.File f)) = 102
letter (Whole (entry.Folder t)) = 100
letter (Whole (entry.Value k v)) = 118
letter (Whole (entry.Key r t)) = 107
letter (Whole (entry.Shortcut s)) = 115
letter (Whole (entry.Variable v)) = 110
letter (Whole (entry.Client c)) = 99
letter (Whole (entry.Product p)) = 112
letter (Whole (entry.System p t)) = 121

pub first_letter : (i : Item) → get_or (item_name i) 0 0 ≡ letter i
unfolding file_name folder_name key_name value_name shortcut_name variable_name client_name product_name system_name
first_letter (Head h content) = refl
first_letter (Whole (entry.File f)) = refl
first_letter (Whole (entry.Folder t)) = refl
first_letter (Whole (entry.Value k v)) = refl
first_letter (Whole (entry.Key r t)) = refl
first_letter (Whole (entry.Shortcut s)) = refl
first_letter (Whole (entry.Variable v)) = refl
first_letter (Whole (entry.Client c)) = refl
first_letter (Whole (entry.Product p)) = refl
first_letter (Whole (entry.System p t)) = refl

neither : (n : ℕ) → eqb n 107 ≡ false → eqb n 118 ≡ false → (n ≡ 107) ⊎ (n ≡ 118) → ⊥
neither n a b (inl e) = let clash : true ≡ false = ap (λ k. eqb k 107) (sym e) ∙ a in absurd cc
neither n a b (inr e) = let clash : true ≡ false = ap (λ k. eqb k 118) (sym e) ∙ b in absurd cc

-- no root has a greater number than 3
root_of : (i : Item) → item_fits i ≡ true → (letter i ≡ 107) ⊎ (letter i ≡ 118) → get_or (item_name i) 2 0 ≤ 51
unfolding key_name value_name fits
root_of (Whole (entry.Value k v)) fit is = let small = ltb-true k.root 4 (both _ _ (both _ _ (both _ _ (both _ _ fit).0).0).0).0 in omega arith
root_of (Whole (entry.Key r t)) fit is = let small = ltb-true r 4 (both _ _ fit).0 in omega arith
root_of (Head h content) fit is = absurd (neither _ refl refl is)
root_of (Whole (entry.File f)) fit is = absurd (neither _ refl refl is)
root_of (Whole (entry.Folder t)) fit is = absurd (neither _ refl refl is)
root_of (Whole (entry.Shortcut s)) fit is = absurd (neither _ refl refl is)
root_of (Whole (entry.Variable v)) fit is = absurd (neither _ refl refl is)
root_of (Whole (entry.Client c)) fit is = absurd (neither _ refl refl is)
root_of (Whole (entry.Product p)) fit is = absurd (neither _ refl refl is)
root_of (Whole (entry.System p t)) fit is = absurd (neither _ refl refl is)

no_root : (q : Name) → (get_or q 0 0 ≡ 107) ⊎ (get_or q 0 0 ≡ 118) → 51 < get_or q 2 0 → IsNoName q
no_root q kind large i may =
    let first : letter i ≡ get_or q 0 0 = sym (first_letter i) ∙ ap (λ (n : Name). get_or n 0 0) may.named in
    let third : get_or (item_name i) 2 0 ≡ get_or q 2 0 = ap (λ (n : Name). get_or n 2 0) may.named in
    let small = root_of i may.right (⊎_elim (λ e. inl (first ∙ e)) (λ e. inr (first ∙ e)) kind) in
    omega (arith, small, third, large)

pub no_key : (root : ℕ) (key : List ℕ) → 3 < root → IsNoName (key_name root key)
unfolding key_name
no_key root key large = no_root (107 ∷ 47 ∷ (48 + root) ∷ folded key) (inl refl) (omega arith)

pub no_value : (root : ℕ) (key name : List ℕ) → 3 < root → IsNoName (value_name root key name)
unfolding value_name
no_value root key name large = no_root _ (inr refl) (omega arith)

-- files

pub file_over : (held files : Map (List ℕ)) (items : Items) (q : Name) (h : FileHead) (content : Content) → get items q ≡ Some (Head h content) → AreThere held files items → Some h ≡ option_map head_of (as_file (get (machine_over held files items) q))
file_over held files items q h content at there =
    let long : length (content_bytes held files (file_name h.shown) content) ≡ h.length = there q (Head h content) at in
    ap (λ k. Some (record h { length = k })) (sym long) ∙ sym (ap (λ o. option_map head_of (as_file o)) (get_over held files items q ∙ ap (option_map (entry_over held files)) at))

pub content_over : (held files : Map (List ℕ)) (items : Items) (q : Name) (h : FileHead) (content : Content) → AreRight items → get items q ≡ Some (Head h content) → Some (content_bytes held files q content) ≡ option_map (λ (f : FileEntry). f.bytes) (as_file (get (machine_over held files items) q))
content_over held files items q h content right at = ap (λ (n : Name). Some (content_bytes held files n content)) (sym (right q (Head h content) at).named) ∙ sym (ap (λ o. option_map (λ (f : FileEntry). f.bytes) (as_file o)) (get_over held files items q ∙ ap (option_map (entry_over held files)) at))

pub nothing_over : (held files : Map (List ℕ)) (items : Items) (q : Name) → get items q ≡ None → as_file (get (machine_over held files items) q) ≡ None
nothing_over held files items q at = ap as_file (get_over held files items q ∙ ap (option_map (entry_over held files)) at)

-- what stands whole is no file
pub no_file_over : (held files : Map (List ℕ)) (items : Items) (q : Name) (e : Entry) → AreRight items → get items q ≡ Some (Whole e) → as_file (get (machine_over held files items) q) ≡ None
no_file_over held files items q e right at = ap as_file (get_over held files items q ∙ ap (option_map (entry_over held files)) at) ∙ by_kind e (right q (Whole e) at).split
  where
    by_kind : (e : Entry) → is_split (Whole e) ≡ true → as_file (Some e) ≡ None
    by_kind (entry.File f) split = absurd cc
    by_kind (entry.Folder t) split = refl
    by_kind (entry.Value k v) split = refl
    by_kind (entry.Key r t) split = refl
    by_kind (entry.Shortcut s) split = refl
    by_kind (entry.Variable v) split = refl
    by_kind (entry.Client c) split = refl
    by_kind (entry.Product p) split = refl
    by_kind (entry.System p t) split = refl

-- and what was found there is known by its kind
pub over_found : {Y : Type 0} → (kind : Option Entry → Option Y) → ((f : FileEntry) → kind (Some (entry.File f)) ≡ kind None) → (held files : Map (List ℕ)) (items : Items) (q : Name) (o : Option Entry) → o ≡ whole_of (get items q) → kind o ≡ kind (get (machine_over held files items) q)
over_found kind known held files items q o is = ap kind is ∙ over_whole kind known held files items q
