-- What is added to a script copies files of the source whole.
use Rattle.std.proofs.Common.{◌≡◌, ℕ, suc, ◌+◌, Bool, true, false, cond, not, ◌&&◌, List, [], ◌∷◌, ◌++◌, map, length, Option, Some, None, refl, sym, ap, ◌∙◌, subst, arith, append_assoc, length-append}
use Rattle.std.specs.Prelude.{option_map, All}
use Rattle.std.specs.List.{AllByRecursion}
use Rattle.std.specs.Int.{w32, to_be_bytes}
use Rattle.std.specs.FinMap.{empty, get, get-empty}
use Rattle.std.proofs.lemmas.List.Elements.{All-from_recursion, All-append}
use Rattle.std.proofs.lemmas.Slice.Eq.{bytes_eq-Decides}
use Rattle.mi_text.specs.Maps.{Name, Map, name_cmp, set_to}
use Rattle.mi_text.proofs.MapLemmas.{get-set_to, same_itself}
use Rattle.mi_base.specs.declared.entry.Entry.{Entry}
use Rattle.mi_base.specs.declared.entry.Entry.TheVariants as entry
use Rattle.mi_base.specs.declared.entry.FileHead.{FileHead}
use Rattle.mi_base.specs.Fields.{string}
use Rattle.mi_base.specs.Machine.{Machine, volume_of}
use Rattle.mi_base.specs.Names.{folder_name}
use Rattle.mi_base.specs.Spelling.{head_bytes, record_of}
use Rattle.mi_base.proofs.FoldLemmas.{length-folded}
use Rattle.mi_source.specs.Paths.{Files, bytes_or_none}
use Rattle.mi_changes.specs.Touches.{touched}
use Rattle.mi_changes.specs.Changes.{Change, changes}
use Rattle.mi_script.specs.declared.rec.Rec.{Rec}
use Rattle.mi_script.specs.declared.rec.Rec.TheVariants.{Put, Drop, Copy, Dup}
use Rattle.mi_script.specs.Scripts.{change_of, script_changes}
use Rattle.mi_script.specs.Spelled.{is_file_name, same_record, is_left_out, spelled, spelled_changes}
use Rattle.mi_script.proofs.SpellLemmas.{written-spelled_one}
use Rattle.mi_model.specs.Parents.{or_new, folder_touch, folders_down_to, folder_with_parents}
use Rattle.mi_runner.specs.Records.{HasLength}
use Rattle.mi_steps.specs.declared.plan.Plan.{Plan}
use Rattle.mi_steps.specs.Makes.{Makes, plan_machine}
use Rattle.mi_steps.proofs.FollowLemmas.{get-volume_of}
use Rattle.mi_installs.specs.Copying.{AddsWhole}

-- ---- folders that are made change nothing else

-- a change that puts a folder
record MakesFolder (c : Change (List ℕ)) : Type 0 where
  pub folder : List ℕ
  pub at : c.at ≡ folder_name folder
  pub after : c.after ≡ Some (record_of (entry.Folder folder))

plain : (f : List ℕ) → is_file_name (folder_name f) ≡ false
unfolding folder_name
plain f = refl

same_bytes : (b : List ℕ) → same_record (Some b) (Some b) ≡ true
same_bytes b = (bytes_eq-Decides b b).1 refl

-- the change of the touch of a folder over this machine
abbrev change_to : Machine → List ℕ → Change Entry
change_to m f = record { at = folder_name f; after = or_new (entry.Folder f) (get m (folder_name f)) }

one_made : (m : Machine) (f : List ℕ) → AllByRecursion MakesFolder (spelled (volume_of m) (change_to m f))
one_made m f = by (get m (folder_name f)) refl
  where
    kept : (b : Bool) → AllByRecursion MakesFolder (cond b [] (record { at = folder_name f; after = Some (record_of (entry.Folder f)) } ∷ []))
    kept true = tt
    kept false = (record { folder = f; at = refl; after = refl }, tt)

    stays : (e : Entry) → get m (folder_name f) ≡ Some e → is_left_out (record { at = folder_name f; after = Some (record_of e) }) (get (volume_of m) (folder_name f)) ≡ true
    stays e at =
        ap (λ b. not (b && true) && same_record (Some (record_of e)) (get (volume_of m) (folder_name f))) (plain f)
        ∙ ap (same_record (Some (record_of e))) (get-volume_of m (folder_name f) ∙ ap (option_map record_of) at)
        ∙ same_bytes (record_of e)

    by : (o : Option Entry) → get m (folder_name f) ≡ o → AllByRecursion MakesFolder (spelled (volume_of m) (record { at = folder_name f; after = or_new (entry.Folder f) o }))
    by None at = kept (is_left_out (record { at = folder_name f; after = Some (record_of (entry.Folder f)) }) (get (volume_of m) (folder_name f)))
    by (Some e) at = subst (λ b. AllByRecursion MakesFolder (cond b [] (record { at = folder_name f; after = Some (record_of e) } ∷ []))) (sym (stays e at)) tt

joined : {X : Type 0} (P : X → Type 0) (xs ys : List X) → AllByRecursion P xs → AllByRecursion P ys → AllByRecursion P (xs ++ ys)
joined P [] ys a b = b
joined P (x ∷ xs) ys a b = (a.0, joined P xs ys a.1 b)

all_made : (m : Machine) (fs : List (List ℕ)) → AllByRecursion MakesFolder (spelled_changes (volume_of m) (changes m (map folder_touch fs)))
all_made m [] = tt
all_made m (f ∷ fs) =
    let next : Machine = touched m (folder_touch f) in
    joined MakesFolder (spelled (volume_of m) (change_to m f)) _ (one_made m f)
    (subst (λ d. AllByRecursion MakesFolder (spelled_changes d (changes next (map folder_touch fs)))) (sym (written-spelled_one m (change_to m f))) (all_made next fs))

-- ---- no copy changes so

-- what a copy makes is a folder
abbrev CopiesFolder : Files → Rec → Type 0
CopiesFolder files (Put name bytes) = Unit {0}
CopiesFolder files (Drop name) = Unit {0}
CopiesFolder files (Copy name h file path n) = MakesFolder (record { at = name; after = Some (head_bytes h ++ bytes_or_none (get files path)) })
CopiesFolder files (Dup name h from) = Unit {0}

each_copies : (files : Files) (d : Map (List ℕ)) (rs : List Rec) → AllByRecursion MakesFolder (script_changes files d rs) → AllByRecursion (CopiesFolder files) rs
each_copies files d [] all = tt
each_copies files d (r ∷ rs) all = (by r all.0, each_copies files (set_to d (change_of files d r).at (change_of files d r).after) rs all.1)
  where
    by : (r : Rec) → MakesFolder (change_of files d r) → CopiesFolder files r
    by (Put name bytes) is = tt
    by (Drop name) is = tt
    by (Copy name h file path n) is = is
    by (Dup name h from) is = tt

over_all : (rs : List Rec) → ((files : Files) → AllByRecursion (CopiesFolder files) rs) → AllByRecursion (λ r. (files : Files) → CopiesFolder files r) rs
over_all [] all = tt
over_all (r ∷ rs) all = (λ files. (all files).0, over_all rs (λ files. (all files).1))

same_some : {X : Type 0} (a b : X) → Some a ≡ Some b → a ≡ b
same_some a b e = cc

name_length : (f : List ℕ) → length (folder_name f) ≡ suc (suc (length f))
unfolding folder_name
name_length f = ap (λ n. suc (suc n)) (length-folded f)

record_length : (f g : List ℕ) → folder_name f ≡ folder_name g → length (record_of (entry.Folder f)) ≡ length (record_of (entry.Folder g))
unfolding record_of
record_length f g same =
    let a = name_length f in let b = name_length g in let c = ap length same in
    let long : length f ≡ length g = omega arith in
    length-string f ∙ ap (λ n. length (to_be_bytes w32 n) + n) long ∙ sym (length-string g)
  where
    length-string : (f : List ℕ) → length (string f) ≡ length (to_be_bytes w32 (length f)) + length f
    length-string f = length-append (to_be_bytes w32 (length f)) f

-- one byte more in the source would make the record of the folder longer
no_copy : (name : Name) (h : FileHead) (file path : List ℕ) (n : ℕ) → ((files : Files) → CopiesFolder files (Copy name h file path n)) → ⊥
no_copy name h file path n each =
    let none : Files = empty in
    let some : Files = set_to none path (Some (0 ∷ [])) in
    let one = each none in
    let two = each some in
    let at_none : get none path ≡ None = get-empty name_cmp path in
    let at_some : get some path ≡ Some (0 ∷ []) = get-set_to none path (Some (0 ∷ [])) path ∙ ap (λ b. cond b (Some (0 ∷ [])) (get none path)) (same_itself path) in
    let a : length (head_bytes h) + 0 ≡ length (record_of (entry.Folder one.folder)) = sym (length-append (head_bytes h) []) ∙ ap (λ o. length (head_bytes h ++ bytes_or_none o)) (sym at_none) ∙ ap length (same_some _ _ one.after) in
    let b : length (head_bytes h) + 1 ≡ length (record_of (entry.Folder two.folder)) = sym (length-append (head_bytes h) (0 ∷ [])) ∙ ap (λ o. length (head_bytes h ++ bytes_or_none o)) (sym at_some) ∙ ap length (same_some _ _ two.after) in
    let same = record_length one.folder two.folder (sym one.at ∙ two.at) in
    omega arith

has_length : (files : Files) (r : Rec) → ((files : Files) → CopiesFolder files r) → HasLength files r
has_length files (Put name bytes) each = tt
has_length files (Drop name) each = tt
has_length files (Copy name h file path n) each = absurd (no_copy name h file path n each)
has_length files (Dup name h from) each = tt

every : (files : Files) (rs : List Rec) → AllByRecursion (λ r. (files : Files) → CopiesFolder files r) rs → AllByRecursion (HasLength files) rs
every files [] all = tt
every files (r ∷ rs) all = (has_length files r all.0, every files rs all.1)

-- ---- what is added

cancelled : {X : Type 0} (xs ys zs : List X) → xs ++ ys ≡ xs ++ zs → ys ≡ zs
cancelled [] ys zs e = e
cancelled (x ∷ xs) ys zs e = let rest : xs ++ ys ≡ xs ++ zs = cc in cancelled xs ys zs rest

-- folders that are made copy nothing
pub folders_whole : (a b : Plan) (folder : List ℕ) → ((held files : Map (List ℕ)) → Makes held files a b (folder_with_parents folder)) → (files : Files) → AddsWhole files a.script b.script
folders_whole a b folder makes files more is =
    All-from_recursion (HasLength files) more (every files more (over_all more (λ other.
    let made = makes empty other in
    let m : Machine = plan_machine empty other a in
    let all : AllByRecursion MakesFolder (script_changes other (volume_of m) made.records) = subst (AllByRecursion MakesFolder) (sym made.spells) (all_made m (folders_down_to folder)) in
    subst (AllByRecursion (CopiesFolder other)) (cancelled a.script made.records more (sym made.grows ∙ is)) (each_copies other (volume_of m) made.records all))))

-- a file is copied whole
pub copy_whole : (files : Files) (had has : List Rec) (name : Name) (h : FileHead) (file path : List ℕ) (n : ℕ) → has ≡ had ++ Copy name h file path n ∷ [] → length (bytes_or_none (get files path)) ≡ n → AddsWhole files had has
copy_whole files had has name h file path n added long more is =
    let these : Copy name h file path n ∷ [] ≡ more = cancelled had (Copy name h file path n ∷ []) more (sym added ∙ is) in
    subst (λ rs. All (HasLength files) rs) these (All-from_recursion (HasLength files) (Copy name h file path n ∷ []) (long, tt))

pub whole_not : (files : Files) (had : List Rec) → AddsWhole files had had
whole_not files had more is =
    let none : [] ≡ more = cancelled had [] more (nil had ∙ is) in
    subst (λ rs. All (HasLength files) rs) none (All-from_recursion (HasLength files) [] tt)
  where
    nil : (xs : List Rec) → xs ++ [] ≡ xs
    nil [] = refl
    nil (x ∷ xs) = ap (λ (ys : List Rec). x ∷ ys) (nil xs)

pub whole_on : (files : Files) (h i j : List Rec) (front back : List Rec) → i ≡ h ++ front → j ≡ i ++ back → AddsWhole files h i → AddsWhole files i j → AddsWhole files h j
whole_on files h i j front back first second one two more is =
    let these : front ++ back ≡ more = cancelled h (front ++ back) more (sym (append_assoc h front back) ∙ sym (ap (λ (x : List Rec). x ++ back) first) ∙ sym second ∙ is) in
    subst (λ rs. All (HasLength files) rs) these (All-append (HasLength files) front back (one front first) (two back second))
