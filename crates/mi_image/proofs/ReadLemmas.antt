-- The item that a name and its record spell.
use Rattle.std.proofs.Common.{◌≡◌, ℕ, ◌-◌, ◌+◌, ◌<◌, ◌≤◌, Bool, true, false, eqb, ◌||◌, ◌⊎◌, List, [], ◌∷◌, ◌++◌, length, get_or, take, drop, zero, suc, Option, Some, None, Result, Ok, Err, refl, sym, ap, subst, ◌∙◌, arith, inl, inr, take_at, length-append}
use Rattle.std.specs.Prelude.{codes, nat_eq, option_map, replicate}
use Rattle.std.specs.Int.{w32, to_be_bytes}
use Rattle.std.specs.List.{starts_with}
use Rattle.std.proofs.lemmas.Bool.{cases_Bool}
use Rattle.std.proofs.lemmas.List.{length-replicate}
use Rattle.mi_text.specs.Bytes.{are_bytes, AreBytes}
use Rattle.mi_text.specs.Fold.{folded}
use Rattle.mi_text.specs.Maps.{Name}
use Rattle.mi_base.specs.declared.rec_error.RecFault.{RecFault}
use Rattle.mi_base.specs.declared.entry.FileHead.{FileHead}
use Rattle.mi_base.specs.declared.entry.Entry.{Entry}
use Rattle.mi_base.specs.declared.entry.Entry.TheVariants as entry
use Rattle.mi_base.specs.Limits.{fits}
use Rattle.mi_base.specs.Fields.{string}
use Rattle.mi_base.specs.Names.{file_name, folder_name, key_name, value_name, shortcut_name, variable_name, client_name, product_name, system_name}
use Rattle.mi_base.specs.Spelling.{name_of, record_of}
use Rattle.mi_base.specs.Reading.{◌>>=◌}
use Rattle.mi_base.specs.Records.{names_file, head_at, with_bytes, file_of, entry_of, file_head_of}
use Rattle.mi_base.specs.Machine.{ok_entry}
use Rattle.mi_base.proofs.ByteLemmas.{bytes-append}
use Rattle.mi_base.proofs.EntryLemmas.{spells}
use Rattle.mi_base.proofs.FoldLemmas.{folder_short}
use Rattle.mi_base.proofs.HeadLemmas.{head_takes}
use Rattle.mi_base.proofs.NameLemmas.{key_short}
use Rattle.mi_text.proofs.ByteLemmas.{both}
use Rattle.mi_image.specs.declared.item.Content.TheVariants.{Own}
use Rattle.mi_image.specs.declared.item.Item.{Item}
use Rattle.mi_image.specs.declared.item.Item.TheVariants.{Head, Whole}
use Rattle.mi_image.specs.Items.{item_name, is_split, item_fits, MayStand}
use Rattle.mi_image.specs.Scan.{scanned_item, item_read}
use Rattle.mi_image.proofs.PrefixLemmas.{starts_is, starts_append}

-- ---- where an item may stand

named : (e : Entry) → item_name (scanned_item e) ≡ name_of e
named (entry.File f) = refl
named (entry.Folder t) = refl
named (entry.Value k v) = refl
named (entry.Key r t) = refl
named (entry.Shortcut s) = refl
named (entry.Variable v) = refl
named (entry.Client c) = refl
named (entry.Product p) = refl
named (entry.System p t) = refl

split : (e : Entry) → is_split (scanned_item e) ≡ true
split (entry.File f) = refl
split (entry.Folder t) = refl
split (entry.Value k v) = refl
split (entry.Key r t) = refl
split (entry.Shortcut s) = refl
split (entry.Variable v) = refl
split (entry.Client c) = refl
split (entry.Product p) = refl
split (entry.System p t) = refl

right : (e : Entry) → fits e ≡ true → item_fits (scanned_item e) ≡ true
unfolding fits
right (entry.File f) is = is
right (entry.Folder t) is = is
right (entry.Value k v) is = is
right (entry.Key r t) is = is
right (entry.Shortcut s) is = is
right (entry.Variable v) is = is
right (entry.Client c) is = is
right (entry.Product p) is = is
right (entry.System p t) is = is

-- what is read under a name may stand there
pub may_stand : (q : Name) (bytes : List ℕ) (i : Item) → item_read q bytes ≡ Some i → MayStand q i
may_stand q bytes i is = by_read (entry_of q bytes) refl is
  where
    by_read : (r : Result Entry RecFault) → entry_of q bytes ≡ r → option_map scanned_item (ok_entry r) ≡ Some i → MayStand q i
    by_read (Ok e) read is =
        let spelled = spells q bytes e read in
        let here : scanned_item e ≡ i = cc in
        subst (MayStand q) here (record {
          named = named e ∙ spelled.named;
          right = right e spelled.right;
          split = split e;
        })
    by_read (Err f) read is = absurd cc

-- ---- files

-- a name of a file, as its two first bytes and its path
pub file_path : (q : Name) → starts_with nat_eq q (codes "f/") ≡ true → (path : List ℕ) × (q ≡ 102 ∷ 47 ∷ path)
file_path q is = (drop 2 q, starts_is q (codes "f/") is)

abbrev pub ok_head : Result FileHead RecFault → Option FileHead
ok_head (Ok h) = Some h
ok_head (Err f) = None

-- a file's item is its head
head_read : (path whole : List ℕ) → AreBytes whole → item_read (102 ∷ 47 ∷ path) whole ≡ option_map (λ h. Head h Own) (ok_head (file_head_of (102 ∷ 47 ∷ path) whole))
unfolding file_head_of entry_of file_of
head_read path whole good =
    elim (cases_Bool (names_file path)) [
      | inl named ↦ rw (good, named) (by_head (head_at 0 path whole) refl)
      | inr other ↦ rw (good, other) refl
    ]
  where
    by_head : (r : Result (FileHead × List ℕ) RecFault) → head_at 0 path whole ≡ r
        → option_map scanned_item (ok_entry (r >>= λ h. Ok (entry.File (with_bytes h.0 h.1)))) ≡ option_map (λ h. Head h Own) (ok_head (r >>= λ h. Ok h.0))
    by_head (Ok x) is = let t = head_takes path whole x good is in let n : length x.1 ≡ (x.0).length = (let l = t.long in omega arith) in ap (λ k. Some (Head (record x.0 { length = k }) Own)) n
    by_head (Err f) is = refl

-- what is read of a head
pub head_is : (q : Name) (whole : List ℕ) (h : FileHead) → starts_with nat_eq q (codes "f/") ≡ true → AreBytes whole → file_head_of q whole ≡ Ok h → item_read q whole ≡ Some (Head h Own)
head_is q whole h file good is =
    let p = file_path q file in
    subst (λ (n : Name). file_head_of n whole ≡ Ok h → item_read n whole ≡ Some (Head h Own)) (sym p.1)
    (λ at. head_read p.0 whole good ∙ ap (λ r. option_map (λ (x : FileHead). Head x Own) (ok_head r)) at) is

pub no_head_is : (q : Name) (whole : List ℕ) (f : RecFault) → starts_with nat_eq q (codes "f/") ≡ true → AreBytes whole → file_head_of q whole ≡ Err f → item_read q whole ≡ None
no_head_is q whole f file good is =
    let p = file_path q file in
    subst (λ (n : Name). file_head_of n whole ≡ Err f → item_read n whole ≡ None) (sym p.1)
    (λ at. head_read p.0 whole good ∙ ap (λ r. option_map (λ (x : FileHead). Head x Own) (ok_head r)) at) is

-- a record that begins with these bytes and has this length
pub record_from : (front : List ℕ) (size : ℕ) → AreBytes front → length front ≤ size → (whole : List ℕ) × AreBytes whole × (length whole ≡ size) × (take (length front) whole ≡ front)
record_from front size good within =
    let rest : List ℕ = replicate (size - length front) 0 in
    (front ++ rest, bytes-append front rest good (zeros (size - length front)), omega (arith, length-append front rest, length-replicate {A = ℕ} (size - length front) 0), take_at front rest (length front) refl)
  where
    zeros : (n : ℕ) → are_bytes (replicate n 0) ≡ true
    zeros zero = refl
    zeros (suc n) = zeros n

-- ---- other entries

pub file_name_is : (path : List ℕ) → file_name path ≡ codes "f/" ++ folded path
unfolding file_name
file_name_is path = refl

-- what isn't held under a file's name is whole
pub whole_is : (q : Name) (bytes : List ℕ) (e : Entry) → starts_with nat_eq q (codes "f/") ≡ false → entry_of q bytes ≡ Ok e → item_read q bytes ≡ Some (Whole e)
whole_is q bytes e other is = ap (λ r. option_map scanned_item (ok_entry r)) is ∙ by_kind e ((spells q bytes e is).named)
  where
    by_kind : (e : Entry) → name_of e ≡ q → Some (scanned_item e) ≡ Some (Whole e)
    by_kind (entry.File f) named =
        let file : starts_with nat_eq q (codes "f/") ≡ true = ap (λ (n : Name). starts_with nat_eq n (codes "f/")) (sym named ∙ file_name_is f.shown) ∙ starts_append (codes "f/") (folded f.shown) in
        absurd cc
    by_kind (entry.Folder t) named = refl
    by_kind (entry.Value k v) named = refl
    by_kind (entry.Key r t) named = refl
    by_kind (entry.Shortcut s) named = refl
    by_kind (entry.Variable v) named = refl
    by_kind (entry.Client c) named = refl
    by_kind (entry.Product p) named = refl
    by_kind (entry.System p t) named = refl

pub no_record_is : (q : Name) (bytes : List ℕ) (f : RecFault) → entry_of q bytes ≡ Err f → item_read q bytes ≡ None
no_record_is q bytes f is = ap (λ r. option_map scanned_item (ok_entry r)) is

-- ---- the longest records

neither : (n : ℕ) → eqb n 100 ≡ false → eqb n 107 ≡ false → (n ≡ 100) ⊎ (n ≡ 107) → ⊥
neither n a b (inl e) = let clash : true ≡ false = ap (λ (k : ℕ). eqb k 100) (sym e) ∙ a in absurd cc
neither n a b (inr e) = let clash : true ≡ false = ap (λ (k : ℕ). eqb k 107) (sym e) ∙ b in absurd cc

pub string_length : (t : List ℕ) → length (string t) ≡ 4 + length t
string_length t = length-append (to_be_bytes w32 (length t)) t

-- the letter at the front of a name
front_letter : (q : Name) (kind : ℕ) → starts_with nat_eq q (kind ∷ 47 ∷ []) ≡ true → get_or q 0 0 ≡ kind
front_letter q kind is = ap (λ (n : Name). get_or n 0 0) (starts_is q (kind ∷ 47 ∷ []) is)

short_record : (e : Entry) → fits e ≡ true → (get_or (name_of e) 0 0 ≡ 100) ⊎ (get_or (name_of e) 0 0 ≡ 107) → length (record_of e) ≤ 504
unfolding record_of fits file_name folder_name key_name value_name shortcut_name variable_name client_name product_name system_name
short_record (entry.Folder t) right kind = let short = folder_short t (both _ _ right).0 in omega (arith, string_length t, short)
short_record (entry.Key r t) right kind = let short = key_short t (both _ _ right).1 in omega (arith, string_length t, short)
short_record (entry.File f) right kind = absurd (neither 102 refl refl kind)
short_record (entry.Value k v) right kind = absurd (neither 118 refl refl kind)
short_record (entry.Shortcut s) right kind = absurd (neither 115 refl refl kind)
short_record (entry.Variable v) right kind = absurd (neither 110 refl refl kind)
short_record (entry.Client c) right kind = absurd (neither 99 refl refl kind)
short_record (entry.Product p) right kind = absurd (neither 112 refl refl kind)
short_record (entry.System p t) right kind = absurd (neither 121 refl refl kind)

-- a longer one spells no folder and no key
too_long : (q : Name) (bytes : List ℕ) → 504 < length bytes → (get_or q 0 0 ≡ 100) ⊎ (get_or q 0 0 ≡ 107) → item_read q bytes ≡ None
too_long q bytes long kind = by_read (entry_of q bytes) refl
  where
    by_read : (r : Result Entry RecFault) → entry_of q bytes ≡ r → option_map scanned_item (ok_entry r) ≡ None
    by_read (Ok e) is =
        let s = spells q bytes e is in
        let short = short_record e s.right (subst (λ (n : Name). (get_or n 0 0 ≡ 100) ⊎ (get_or n 0 0 ≡ 107)) (sym s.named) kind) in
        let same : length (record_of e) ≡ length bytes = ap length s.spelled in
        absurd (omega (arith, short, same, long))
    by_read (Err f) is = refl

pub no_record : (q : Name) (bytes : List ℕ) → 504 < length bytes → (starts_with nat_eq q (codes "d/") || starts_with nat_eq q (codes "k/")) ≡ true → item_read q bytes ≡ None
no_record q bytes long kind = too_long q bytes long (by_kind (starts_with nat_eq q (codes "d/")) refl kind)
  where
    by_kind : (folder : Bool) → starts_with nat_eq q (codes "d/") ≡ folder → (folder || starts_with nat_eq q (codes "k/")) ≡ true → (get_or q 0 0 ≡ 100) ⊎ (get_or q 0 0 ≡ 107)
    by_kind true is kind = inl (front_letter q 100 is)
    by_kind false is kind = inr (front_letter q 107 kind)
