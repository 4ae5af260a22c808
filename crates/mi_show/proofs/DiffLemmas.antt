-- Names of two machines, and the lines of what stands there.
use Rattle.std.proofs.Common.{◌≡◌, ℕ, ◌+◌, ◌<◌, ◌≤◌, true, false, List, ◌++◌, drop, length, get_or, Option, Some, None, refl, sym, ap, ◌∙◌, append_assoc, append-nil, Result, Ok, Err}
use Rattle.std.specs.Prelude.{option_map, IsOkAnd, filter, nat_eq}
use Rattle.std.specs.List.{flat_map, starts_with}
use Rattle.std.specs.FinMap.{get, keys}
use Rattle.std.proofs.lemmas.List.{drop_all}
use Rattle.md5.specs.Md5.{md5}
use Rattle.mi_text.specs.Maps.{Name, Map}
use Rattle.mi_base.specs.declared.entry.FileHead.{FileHead}
use Rattle.mi_base.specs.declared.entry.Entry.{Entry}
use Rattle.mi_base.specs.declared.entry.Entry.TheVariants as entry
use Rattle.mi_base.specs.Names.{file_name}
use Rattle.mi_base.specs.Spelling.{head_of}
use Rattle.mi_base.specs.Records.{with_bytes}
use Rattle.mi_base.specs.Machine.{Machine, machine_of}
use Rattle.mi_image.specs.declared.item.Content.{Content}
use Rattle.mi_image.specs.declared.item.Item.{Item}
use Rattle.mi_image.specs.declared.item.Item.TheVariants.{Head, Whole}
use Rattle.mi_image.specs.Items.{Items, AreRight, content_bytes, entry_over, bytes_of_file, ImageOf}
use Rattle.mi_image.proofs.LookupLemmas.{get_over}
use Rattle.mi_print.specs.Texts.{field}
use Rattle.mi_print.specs.Lines.{head_details, file_line}
use Rattle.mi_print_looks.specs.Machines.{no_files, machine_in, plain_machine}
use Rattle.mi_show.specs.Machines.{IsScanned}
use Rattle.mi_print.specs.Entries.{other_line}
use Rattle.mi_print_looks.specs.Sets.{names_of, name_set}
use Rattle.mi_show.specs.Differences.{names_of_either, entry_line, line_at, item_line, different}
use Rattle.mi_show.proofs.ImageLemmas.{plain_keys, drop_more}

-- ---- names

names_same : (held : Map (List ℕ)) (items : Items) (front : Name) → names_of front (plain_machine items) ≡ names_of front (machine_in held items)
names_same held items front = ap (λ (qs : List Name). filter (λ q. starts_with nat_eq q front) qs) (plain_keys held items)

pub either_same : (front : Name) (held_old held_new : Map (List ℕ)) (old new : Items)
    → keys (name_set (names_of front (plain_machine old) ++ names_of front (plain_machine new))) ≡ names_of_either front (machine_in held_old old) (machine_in held_new new)
either_same front held_old held_new old new = λ i. keys (name_set (names_same held_old old front i ++ names_same held_new new front i))

-- ---- lines

whole_line : (items : Items) (q : Name) (e : Entry) → AreRight items → get items q ≡ Some (Whole e) → other_line e ≡ entry_line e
whole_line items q (entry.File f) right at = let split : false ≡ true = (right q (Whole (entry.File f)) at).split in absurd cc
whole_line items q (entry.Folder t) right at = refl
whole_line items q (entry.Value k v) right at = refl
whole_line items q (entry.Key r t) right at = refl
whole_line items q (entry.Shortcut t) right at = refl
whole_line items q (entry.Variable t) right at = refl
whole_line items q (entry.Client t) right at = refl
whole_line items q (entry.Product t) right at = refl
whole_line items q (entry.System p t) right at = refl

head_line : (held : Map (List ℕ)) (items : Items) (q : Name) (h : FileHead) (content : Content) → AreRight items → IsScanned held items → get items q ≡ Some (Head h content)
    → item_line (machine_in held items) (Head h content) ≡ file_line (with_bytes h (content_bytes held no_files (file_name h.shown) content))
unfolding file_line
head_line held items q h content right there at =
    let bytes : List ℕ = content_bytes held no_files (file_name h.shown) content in
    let named : file_name h.shown ≡ q = (right q (Head h content) at).named in
    let long : length bytes ≡ h.length = there q (Head h content) at in
    let head : head_of (with_bytes h bytes) ≡ h = λ i. record { shown = h.shown; version = h.version; languages = h.languages; created = h.created; modified = h.modified; attributes = h.attributes; length = long i } in
    let held_there : bytes_of_file (get (machine_in held items) (file_name h.shown)) ≡ bytes =
    ap (λ (n : Name). bytes_of_file (get (machine_in held items) n)) named ∙ ap bytes_of_file (get_over held no_files items q) ∙ ap (λ (o : Option Item). bytes_of_file (option_map (entry_over held no_files) o)) at in
    λ i. field h.shown ++ head_details (sym head i) (md5 (held_there i))

-- the line at a name is that of the item there
pub item_at : (held : Map (List ℕ)) (items : Items) → AreRight items → IsScanned held items → (q : Name) (o : Option Item) → o ≡ get items q
    → option_map (item_line (machine_in held items)) o ≡ line_at (machine_in held items) q
item_at held items right there q o is = by_item o (sym is)
  where
    stands : (o : Option Item) → get items q ≡ o → option_map entry_line (option_map (entry_over held no_files) o) ≡ line_at (machine_in held items) q
    stands o at = sym (ap (option_map entry_line) (get_over held no_files items q ∙ ap (option_map (entry_over held no_files)) at))

    by_item : (o : Option Item) → get items q ≡ o → option_map (item_line (machine_in held items)) o ≡ line_at (machine_in held items) q
    by_item None at = stands None at
    by_item (Some (Whole e)) at = ap (λ (l : List ℕ). Some l) (whole_line items q e right at) ∙ stands (Some (Whole e)) at
    by_item (Some (Head h content)) at = ap (λ (l : List ℕ). Some l) (head_line held items q h content right there at) ∙ stands (Some (Head h content)) at

-- ---- loops

pub flat_step : {X : Type 0} → (at : X → List ℕ) (xs : List X) (i : ℕ) (d : X) (out more start : List ℕ) → i < length xs → more ≡ out ++ at (get_or xs i d)
    → out ++ flat_map at (drop i xs) ≡ start → more ++ flat_map at (drop (i + 1) xs) ≡ start
flat_step {X} at xs i d out more start lt text so =
    ap (λ (l : List ℕ). l ++ flat_map at (drop (i + 1) xs)) text
    ∙ append_assoc out (at (get_or xs i d)) (flat_map at (drop (i + 1) xs))
    ∙ ap (λ (l : List ℕ). out ++ l) (sym (ap (flat_map at) (drop_more xs i d lt)))
    ∙ so

pub flat_done : {X : Type 0} → (at : X → List ℕ) (xs : List X) (i : ℕ) (out start : List ℕ) → length xs ≤ i → out ++ flat_map at (drop i xs) ≡ start → out ≡ start
flat_done {X} at xs i out start le so = sym (ap (λ (l : List X). out ++ flat_map at l) (drop_all i xs le) ∙ append-nil out) ∙ so

-- ---- the whole

pub different_of : (held_new held_old : Map (List ℕ)) (new old : Items) (text : List ℕ) → IsOkAnd (machine_of held_new) (ImageOf held_new no_files new) → IsOkAnd (machine_of held_old) (ImageOf held_old no_files old)
    → (IsScanned held_new new → IsScanned held_old old → text ≡ different (machine_in held_old old) (machine_in held_new new))
    → IsOkAnd (machine_of held_new) (λ n. IsOkAnd (machine_of held_old) (λ o. text ≡ different o n))
different_of held_new held_old new old text is_new is_old say = by_new (machine_of held_new) is_new
  where
    by_old : (n : Machine) → ImageOf held_new no_files new n → (r : Result Machine Name) → IsOkAnd r (ImageOf held_old no_files old) → IsOkAnd r (λ o. text ≡ different o n)
    by_old n of (Ok o) of_old = say of.there of_old.there ∙ (λ i. different (of_old.stands i) (of.stands i))
    by_old n of (Err q) of_old = absurd of_old

    by_new : (r : Result Machine Name) → IsOkAnd r (ImageOf held_new no_files new) → IsOkAnd r (λ n. IsOkAnd (machine_of held_old) (λ o. text ≡ different o n))
    by_new (Ok n) of = by_old n of (machine_of held_old) is_old
    by_new (Err q) of = absurd of

-- a step of a loop, over what both volumes hold then
pub pair_step : {X : Type 0} → (at : Map (List ℕ) → Map (List ℕ) → X → List ℕ) (held_old now_old held_new now_new : Map (List ℕ)) (xs : List X) (i : ℕ) (d : X) (out more start : List ℕ)
    → now_old ≡ held_old → now_new ≡ held_new → i < length xs → more ≡ out ++ at now_old now_new (get_or xs i d)
    → out ++ flat_map (at held_old held_new) (drop i xs) ≡ start → more ++ flat_map (at held_old held_new) (drop (i + 1) xs) ≡ start
pair_step {X} at held_old now_old held_new now_new xs i d out more start same_old same_new lt text so =
    flat_step (at held_old held_new) xs i d out more start lt (text ∙ (λ j. out ++ at (same_old j) (same_new j) (get_or xs i d))) so
