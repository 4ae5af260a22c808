-- Canonical paths: the parts that make them, and what a folder, a name below it and a parent give.
use Rattle.std.proofs.Common.{◌≡◌, ℕ, suc, ◌+◌, ◌-◌, ◌<◌, ◌≤◌, ◌≢◌, ◌↔◌, ◌⊎◌, Bool, true, false, not, cond, ◌&&◌, ◌||◌, List, [], ◌∷◌, ◌++◌, length, take, drop, Result, Ok, Err, Option, Some, None, refl, sym, ap, ◌∙◌, subst, inl, inr, ⊎_elim, arith, add-one, get_or, get_or-drop, drop-cons, length-drop, length-append, append_assoc, append-nil}
use Rattle.std.specs.Prelude.{IfOk, IsTrue, ◌==◌, nat_lt, nat_le}
use Rattle.std.specs.List.{slice_split, onto_first, list_any, list_all}
use Rattle.std.specs.Str.{bytes_eq}
use Rattle.std.proofs.lemmas.Bool.{cases_Bool, eqb-true}
use Rattle.std.proofs.lemmas.Grind.{take_at_read}
use Rattle.std.proofs.lemmas.Bool.Decides.{nat_tests}
use Rattle.std.proofs.lemmas.Slice.Eq.{bytes_eq-Decides}
use Rattle.std.proofs.lemmas.List.Splits.{length-slice_split}
use Rattle.std.proofs.lemmas.List.{take_at, take-append-drop, same_from_push}
use Rattle.std.proofs.Math.Seq.{take-append-add}
use Rattle.std.proofs.lemmas.List.Folds.{list_all-append}
use Rattle.mi_text.specs.declared.path.PathFault.{PathFault}
use Rattle.mi_text.specs.declared.path.PathFault.TheVariants.{BadPart, Length}
use Rattle.mi_text.specs.Path.{good_part, drive_rest, path_on, path_text, folder_in, folder_at, folder_of, is_backslash, is_part, fitted, below_of, file_of, up_to_last, last_part, parent_of, is_read_as, is_folder_path, is_file_path, is_path, joined, AreJoinedParts}

both : (a b : Bool) → (a && b) ≡ true → (a ≡ true) × (b ≡ true)
both true b e = (refl, e)
both false b e = cc

and_true : (a b : Bool) → a ≡ true → b ≡ true → (a && b) ≡ true
and_true a b ea eb = rw (ea, eb) refl

untrue : (b : Bool) → not b ≡ true → b ≡ false
untrue true e = cc
untrue false e = refl

abbrev pub no_backslash : List ℕ → Bool
no_backslash p = list_all (λ b. not (is_backslash b)) p

abbrev pub drive : List ℕ
drive = 67 ∷ 58 ∷ 92 ∷ []

abbrev pub all_parts : List (List ℕ) → Bool
all_parts ps = list_all is_part ps

part_plain : (p : List ℕ) → is_part p ≡ true → no_backslash p ≡ true
part_plain p e = (both _ _ (both _ _ e).0).1

part_good : (p : List ℕ) → is_part p ≡ true → good_part p ≡ true
part_good p e = (both _ _ e).1

part_some : (p : List ℕ) → is_part p ≡ true → (length p == 0) ≡ false
part_some p e = untrue _ (both _ _ (both _ _ e).0).0

joined-append : (ps : List (List ℕ)) (p : List ℕ) → joined (ps ++ p ∷ []) ≡ joined ps ++ (p ++ 92 ∷ [])
joined-append [] p = refl
joined-append (q ∷ ps) p = ap (λ (xs : List ℕ). q ++ 92 ∷ xs) (joined-append ps p) ∙ sym (append_assoc q (92 ∷ joined ps) (p ++ 92 ∷ []))

-- the text of parts, which are read again
split_part : (p rest : List ℕ) → no_backslash p ≡ true → slice_split is_backslash (p ++ 92 ∷ rest) ≡ p ∷ slice_split is_backslash rest
split_part [] rest e = refl
split_part (b ∷ p) rest e =
    let parts = both (not (is_backslash b)) (no_backslash p) e in
    rw (untrue (is_backslash b) parts.0, split_part p rest parts.1) refl

split_joined : (ps : List (List ℕ)) → all_parts ps ≡ true → slice_split is_backslash (joined ps) ≡ ps ++ [] ∷ []
split_joined [] e = refl
split_joined (p ∷ ps) e =
    let parts = both (is_part p) (all_parts ps) e in
    split_part p (joined ps) (part_plain p parts.0) ∙ ap (λ (qs : List (List ℕ)). p ∷ qs) (split_joined ps parts.1)

good_parts : (ps : List (List ℕ)) → all_parts ps ≡ true → list_all good_part (ps ++ [] ∷ []) ≡ true
good_parts [] e = refl
good_parts (p ∷ ps) e = let parts = both (is_part p) (all_parts ps) e in and_true _ _ (part_good p parts.0) (good_parts ps parts.1)

one_more : (path p rest : List ℕ) → (path ++ p ++ 92 ∷ []) ++ rest ≡ path ++ (p ++ 92 ∷ rest)
one_more path p rest = append_assoc (path ++ p) (92 ∷ []) rest ∙ append_assoc path p (92 ∷ rest)

path_on-parts : (path : List ℕ) (ps : List (List ℕ)) → all_parts ps ≡ true → path_on path (ps ++ [] ∷ []) ≡ path ++ joined ps
path_on-parts path [] e = sym (append-nil path)
path_on-parts path (p ∷ ps) e =
    let parts = both (is_part p) (all_parts ps) e in
    ap (λ b. path_on (cond b path (path ++ p ++ 92 ∷ [])) (ps ++ [] ∷ [])) (part_some p parts.0)
    ∙ path_on-parts (path ++ p ++ 92 ∷ []) ps parts.1
    ∙ one_more path p (joined ps)

-- a folder's path is the drive and parts
pub record IsFolder (path : List ℕ) : Type 0 where
  pub parts : List (List ℕ)
  pub good : all_parts parts ≡ true
  pub text : path ≡ drive ++ joined parts
  pub short : nat_lt 259 (length path) ≡ false

pub folder_reads : (path : List ℕ) → IsFolder path → folder_of path ≡ Ok path
folder_reads path f =
    let text : path_text (f.parts ++ [] ∷ []) ≡ path = path_on-parts drive f.parts f.good ∙ sym f.text in
    ap folder_of f.text
    ∙ ap folder_in (split_joined f.parts f.good)
    ∙ ap (λ b. cond b (fitted (path_text (f.parts ++ [] ∷ []))) (Err BadPart)) (good_parts f.parts f.good)
    ∙ ap fitted text
    ∙ ap (λ b. cond b (Err Length) (Ok path)) f.short

pub folder_path : (path : List ℕ) → IsFolder path → is_folder_path path ≡ true
unfolding is_folder_path
folder_path path f = ap (is_read_as path) (folder_reads path f) ∙ (bytes_eq-Decides path path).1 refl

-- the parts that aren't empty
abbrev kept : List (List ℕ) → List (List ℕ)
kept [] = []
kept (p ∷ ps) = cond (length p == 0) (kept ps) (p ∷ kept ps)

path_on-kept : (path : List ℕ) (ps : List (List ℕ)) → path_on path ps ≡ path ++ joined (kept ps)
path_on-kept path [] = sym (append-nil path)
path_on-kept path (p ∷ ps) =
    path_on-kept (cond (length p == 0) path (path ++ p ++ 92 ∷ [])) ps
    ∙ elim (length p == 0) as (λ b. cond b path (path ++ p ++ 92 ∷ []) ++ joined (kept ps) ≡ path ++ joined (cond b (kept ps) (p ∷ kept ps))) [
      | true ↦ refl
      | false ↦ one_more path p (joined (kept ps))
    ]

plain_onto : (x : ℕ) (ps : List (List ℕ)) → is_backslash x ≡ false → list_all no_backslash ps ≡ true → list_all no_backslash (onto_first x ps) ≡ true
plain_onto x [] is e = rw is refl
plain_onto x (p ∷ ps) is e = rw is e

pub plain_parts : (xs : List ℕ) → list_all no_backslash (slice_split is_backslash xs) ≡ true
plain_parts [] = refl
plain_parts (x ∷ xs) =
    elim (is_backslash x) as (λ b. is_backslash x ≡ b → list_all no_backslash (cond b ([] ∷ slice_split is_backslash xs) (onto_first x (slice_split is_backslash xs))) ≡ true) [
      | true ↦ λ is. plain_parts xs
      | false ↦ λ is. plain_onto x (slice_split is_backslash xs) is (plain_parts xs)
    ] refl

kept_good : (ps : List (List ℕ)) → list_all good_part ps ≡ true → list_all no_backslash ps ≡ true → all_parts (kept ps) ≡ true
kept_good [] good plain = refl
kept_good (p ∷ ps) good plain =
    let g = both (good_part p) (list_all good_part ps) good in
    let n = both (no_backslash p) (list_all no_backslash ps) plain in
    elim (length p == 0) as (λ b. (length p == 0) ≡ b → all_parts (cond b (kept ps) (p ∷ kept ps)) ≡ true) [
      | true ↦ λ is. kept_good ps g.1 n.1
      | false ↦ λ is. and_true (is_part p) (all_parts (kept ps)) (and_true _ _ (and_true _ _ (ap not is) n.0) g.0) (kept_good ps g.1 n.1)
    ] refl

pub read_in : (parts : List (List ℕ)) (path : List ℕ) → list_all no_backslash parts ≡ true → folder_in parts ≡ Ok path → IsFolder path
read_in parts path plain e =
    elim (cases_Bool (list_all good_part parts)) [
      | inl good ↦
          let whole : fitted (path_text parts) ≡ Ok path = sym (ap (λ b. cond b (fitted (path_text parts)) (Err BadPart)) good) ∙ e in
          elim (cases_Bool (nat_lt 259 (length (path_text parts)))) [
            | inl long ↦ let no_path : Err Length ≡ Ok path = sym (ap (λ b. cond b (Err Length) (Ok (path_text parts))) long) ∙ whole in cc
            | inr short ↦
                let same : Ok (path_text parts) ≡ Ok path = sym (ap (λ b. cond b (Err Length) (Ok (path_text parts))) short) ∙ whole in
                let text : path_text parts ≡ path = cc in
                record {
                  parts = kept parts;
                  good = kept_good parts good plain;
                  text = sym text ∙ path_on-kept drive parts;
                  short = ap (λ (p : List ℕ). nat_lt 259 (length p)) (sym text) ∙ short;
                }
          ]
      | inr bad ↦ let no_path : Err BadPart ≡ Ok path = sym (ap (λ b. cond b (fitted (path_text parts)) (Err BadPart)) bad) ∙ e in cc
    ]

read_at : (rest : Option (List ℕ)) (path : List ℕ) → folder_at rest ≡ Ok path → IsFolder path
read_at None path e = cc
read_at (Some rest) path e = read_in (slice_split is_backslash rest) path (plain_parts rest) e

-- what is read is a folder's path
pub read_folder : (text path : List ℕ) → folder_of text ≡ Ok path → IsFolder path
read_folder text path e = read_at (drive_rest text) path e

own_path : (path : List ℕ) (r : Result (List ℕ) PathFault) → folder_of path ≡ r → is_read_as path r ≡ true → IsFolder path
own_path path (Ok p) reads same = subst IsFolder ((bytes_eq-Decides p path).0 same) (read_folder path p reads)
own_path path (Err f) reads same = cc

pub folder_is : (path : List ℕ) → is_folder_path path ≡ true → IsFolder path
unfolding is_folder_path
folder_is path e = own_path path (folder_of path) refl e

-- a folder's path ends with a backslash
joined_end : (front : List ℕ) (ps : List (List ℕ)) → (g : List ℕ) × (front ++ 92 ∷ joined ps ≡ g ++ 92 ∷ [])
joined_end front [] = (front, refl)
joined_end front (p ∷ ps) =
    let rest = joined_end (front ++ 92 ∷ p) ps in
    (rest.0, sym (append_assoc front (92 ∷ p) (92 ∷ joined ps)) ∙ rest.1)

pub folder_end : (path : List ℕ) → IsFolder path → (front : List ℕ) × (path ≡ front ++ 92 ∷ [])
folder_end path f = let end = joined_end (67 ∷ 58 ∷ []) f.parts in (end.0, f.text ∙ end.1)

-- the last backslash
or_true : (a : Bool) → (a || true) ≡ true
or_true true = refl
or_true false = refl

none_there : (p : List ℕ) → no_backslash p ≡ true → list_any is_backslash p ≡ false
none_there [] e = refl
none_there (b ∷ p) e = let parts = both (not (is_backslash b)) (no_backslash p) e in rw (untrue (is_backslash b) parts.0) (none_there p parts.1)

one_there : (x p : List ℕ) → list_any is_backslash (x ++ 92 ∷ p) ≡ true
one_there [] p = refl
one_there (b ∷ x) p = ap (λ t. is_backslash b || t) (one_there x p) ∙ or_true (is_backslash b)

up_to_none : (p : List ℕ) → no_backslash p ≡ true → up_to_last p ≡ []
up_to_none [] e = refl
up_to_none (b ∷ p) e = ap (λ t. cond t (b ∷ up_to_last p) []) (none_there (b ∷ p) e)

last_of_plain : (p : List ℕ) → no_backslash p ≡ true → last_part p ≡ p
last_of_plain [] e = refl
last_of_plain (b ∷ p) e = ap (λ t. cond t (last_part p) (b ∷ p)) (none_there (b ∷ p) e)

pub up_to_last-at : (x p : List ℕ) → no_backslash p ≡ true → up_to_last (x ++ 92 ∷ p) ≡ x ++ 92 ∷ []
up_to_last-at [] p e = ap (λ (q : List ℕ). 92 ∷ q) (up_to_none p e)
up_to_last-at (b ∷ x) p e = ap (λ t. cond t (b ∷ up_to_last (x ++ 92 ∷ p)) []) (one_there (b ∷ x) p) ∙ ap (λ (q : List ℕ). b ∷ q) (up_to_last-at x p e)

pub last_part-at : (x p : List ℕ) → no_backslash p ≡ true → last_part (x ++ 92 ∷ p) ≡ p
last_part-at [] p e = last_of_plain p e
last_part-at (b ∷ x) p e = ap (λ t. cond t (last_part (x ++ 92 ∷ p)) (b ∷ (x ++ 92 ∷ p))) (one_there (b ∷ x) p) ∙ last_part-at x p e

pub split_at_last : (xs : List ℕ) → xs ≡ up_to_last xs ++ last_part xs
split_at_last [] = refl
split_at_last (b ∷ xs) =
    elim (list_any is_backslash (b ∷ xs)) as (λ t. b ∷ xs ≡ cond t (b ∷ up_to_last xs) [] ++ cond t (last_part xs) (b ∷ xs)) [
      | true ↦ ap (λ (q : List ℕ). b ∷ q) (split_at_last xs)
      | false ↦ refl
    ]

-- a name behind a folder
up_to_folder : (folder p : List ℕ) → IsFolder folder → no_backslash p ≡ true → up_to_last (folder ++ p) ≡ folder
up_to_folder folder p f plain =
    let end = folder_end folder f in
    let at : folder ++ p ≡ end.0 ++ 92 ∷ p = ap (λ (q : List ℕ). q ++ p) end.1 ∙ append_assoc end.0 (92 ∷ []) p in
    ap up_to_last at ∙ up_to_last-at end.0 p plain ∙ sym end.1

last_of_folder : (folder p : List ℕ) → IsFolder folder → no_backslash p ≡ true → last_part (folder ++ p) ≡ p
last_of_folder folder p f plain =
    let end = folder_end folder f in
    let at : folder ++ p ≡ end.0 ++ 92 ∷ p = ap (λ (q : List ℕ). q ++ p) end.1 ∙ append_assoc end.0 (92 ∷ []) p in
    ap last_part at ∙ last_part-at end.0 p plain

-- the folder of a name in a folder
pub folder_below : (folder p : List ℕ) → IsFolder folder → is_part p ≡ true → nat_lt 259 (length (folder ++ p ++ 92 ∷ [])) ≡ false → IsFolder (folder ++ p ++ 92 ∷ [])
folder_below folder p f part short = record {
  parts = f.parts ++ p ∷ [];
  good = list_all-append is_part f.parts (p ∷ []) ∙ and_true _ _ f.good (and_true _ _ part refl);
  text = append_assoc folder p (92 ∷ []) ∙ ap (λ (q : List ℕ). q ++ (p ++ 92 ∷ [])) f.text ∙ append_assoc drive (joined f.parts) (p ++ 92 ∷ []) ∙ ap (λ (q : List ℕ). drive ++ q) (sym (joined-append f.parts p));
  short = short;
}

-- a file's path is a folder's and a name
pub record IsFile (path : List ℕ) : Type 0 where
  pub folder : List ℕ
  pub name : List ℕ
  pub in_folder : IsFolder folder
  pub good : is_part name ≡ true
  pub text : path ≡ folder ++ name
  pub short : nat_lt 259 (length path) ≡ false

short_enough : (n : ℕ) → nat_lt 259 n ≡ false → nat_le n 259 ≡ true
short_enough n e = grind (arith, nat_tests)

not_long : (n : ℕ) → nat_le n 259 ≡ true → nat_lt 259 n ≡ false
not_long n e = grind (arith, nat_tests)

pub file_path : (path : List ℕ) → IsFile path → is_file_path path ≡ true
unfolding is_file_path
file_path path f =
    let plain = part_plain f.name f.good in
    let front : up_to_last path ≡ f.folder = ap up_to_last f.text ∙ up_to_folder f.folder f.name f.in_folder plain in
    let back : last_part path ≡ f.name = ap last_part f.text ∙ last_of_folder f.folder f.name f.in_folder plain in
    and_true _ _ (and_true _ _ (ap is_folder_path front ∙ folder_path f.folder f.in_folder) (ap is_part back ∙ f.good)) (short_enough (length path) f.short)

pub file_is : (path : List ℕ) → is_file_path path ≡ true → IsFile path
unfolding is_file_path
file_is path e =
    let parts = both _ _ e in
    let inner = both _ _ parts.0 in
    record {
      folder = up_to_last path;
      name = last_part path;
      in_folder = folder_is (up_to_last path) inner.0;
      good = inner.1;
      text = split_at_last path;
      short = not_long (length path) parts.1;
    }

-- parents
without_last : (xs : List ℕ) (b : ℕ) → take (length (xs ++ b ∷ []) - 1) (xs ++ b ∷ []) ≡ xs
without_last xs b = take_at xs (b ∷ []) (length (xs ++ b ∷ []) - 1) (omega (arith, length-append xs (b ∷ [])))

plain_front : (p : List ℕ) (n : ℕ) → no_backslash p ≡ true → no_backslash (take n p) ≡ true
plain_front p n e = (both _ _ (sym (list_all-append (λ b. not (is_backslash b)) (take n p) (drop n p)) ∙ ap no_backslash (take-append-drop n p) ∙ e)).0

drive_length : (path : List ℕ) → IsFolder path → 3 ≤ length path
drive_length path f = let n = ap length f.text in omega (arith, n, length-append drive (joined f.parts))

part_length : (p : List ℕ) → is_part p ≡ true → 1 ≤ length p
part_length p e = let n = part_some p e in grind (arith, nat_tests)

not_drive : (path : List ℕ) → 4 ≤ length path → bytes_eq path drive ≡ false
not_drive path long =
    elim (cases_Bool (bytes_eq path drive)) [
      | inl same ↦ let n = ap length ((bytes_eq-Decides path drive).0 same) in absurd (let z : ⊥ = omega arith in z)
      | inr apart ↦ apart
    ]

parent_inner : (path : List ℕ) → 4 ≤ length path → parent_of path ≡ up_to_last (take (length path - 1) path)
unfolding parent_of
parent_inner path long = ap (λ b. cond b path (up_to_last (take (length path - 1) path))) (not_drive path long)

pub parent_of-below : (folder p : List ℕ) → IsFolder folder → is_part p ≡ true → parent_of (folder ++ p ++ 92 ∷ []) ≡ folder
parent_of-below folder p f part =
    let long : 4 ≤ length (folder ++ p ++ 92 ∷ []) =
    omega (arith, length-append (folder ++ p) (92 ∷ []), length-append folder p, drive_length folder f, part_length p part) in
    parent_inner (folder ++ p ++ 92 ∷ []) long ∙ ap up_to_last (without_last (folder ++ p) 92) ∙ up_to_folder folder p f (part_plain p part)

pub parent_of-file : (folder p : List ℕ) → IsFolder folder → is_part p ≡ true → parent_of (folder ++ p) ≡ folder
parent_of-file folder p f part =
    let n = length-append folder p in
    let some = part_length p part in
    let long : 4 ≤ length (folder ++ p) = omega (arith, n, drive_length folder f, some) in
    let cut : length (folder ++ p) - 1 ≡ length folder + (length p - 1) = omega arith in
    parent_inner (folder ++ p) long
    ∙ ap up_to_last (ap (λ k. take k (folder ++ p)) cut ∙ take-append-add folder p (length p - 1))
    ∙ up_to_folder folder (take (length p - 1) p) f (plain_front p (length p - 1) (part_plain p part))

ends : (ps : List (List ℕ)) → (ps ≡ []) ⊎ ((qs : List (List ℕ)) × (q : List ℕ) × (ps ≡ qs ++ q ∷ []))
ends [] = inl refl
ends (p ∷ ps) = inr (⊎_elim
    (λ none. ([], p, ap (λ (qs : List (List ℕ)). p ∷ qs) none))
    (λ last. (p ∷ last.0, last.1, ap (λ (qs : List (List ℕ)). p ∷ qs) last.2))
    (ends ps))

shorter : (m n : ℕ) → m ≤ n → nat_lt 259 n ≡ false → nat_lt 259 m ≡ false
shorter m n le e = grind (arith, nat_tests)

root : IsFolder drive
root = record { parts = []; good = refl; text = refl; short = refl }

-- a folder's path is the drive, or one below another folder
above : (path : List ℕ) → IsFolder path → (path ≡ drive) ⊎ ((folder : List ℕ) × (p : List ℕ) × IsFolder folder × (is_part p ≡ true) × (path ≡ folder ++ p ++ 92 ∷ []))
above path f = ⊎_elim
    (λ none. inl (f.text ∙ ap (λ (ps : List (List ℕ)). drive ++ joined ps) none))
    (λ last.
    let goods = both _ _ (sym (list_all-append is_part last.0 (last.1 ∷ [])) ∙ ap all_parts (sym last.2) ∙ f.good) in
    let good = both _ _ goods.1 in
    let text : path ≡ (drive ++ joined last.0) ++ last.1 ++ 92 ∷ [] =
    f.text ∙ ap (λ (ps : List (List ℕ)). drive ++ joined ps) last.2 ∙ ap (λ (q : List ℕ). drive ++ q) (joined-append last.0 last.1)
    ∙ sym (append_assoc drive (joined last.0) (last.1 ++ 92 ∷ [])) ∙ sym (append_assoc (drive ++ joined last.0) last.1 (92 ∷ [])) in
    let n = ap length text in
    let short : nat_lt 259 (length (drive ++ joined last.0)) ≡ false =
    shorter (length (drive ++ joined last.0)) (length path)
    (omega (arith, n, length-append ((drive ++ joined last.0) ++ last.1) (92 ∷ []), length-append (drive ++ joined last.0) last.1)) f.short in
    inr (drive ++ joined last.0, last.1, record { parts = last.0; good = goods.0; text = refl; short = short }, good.0, text))
    (ends f.parts)

pub parent_folder : (path : List ℕ) → IsFolder path → IsFolder (parent_of path)
unfolding parent_of
parent_folder path f = ⊎_elim
    (λ is. subst (λ (p : List ℕ). IsFolder (parent_of p)) (sym is) root)
    (λ up. subst IsFolder (sym (ap parent_of up.4 ∙ parent_of-below up.0 up.1 up.2 up.3)) up.2)
    (above path f)

pub parent_file : (path : List ℕ) → IsFile path → IsFolder (parent_of path)
parent_file path f = subst IsFolder (sym (ap parent_of f.text ∙ parent_of-file f.folder f.name f.in_folder f.good)) f.in_folder

either : (a b : Bool) → (a || b) ≡ true → (a ≡ true) ⊎ (b ≡ true)
either true b e = inl refl
either false b e = inr e

pub kinds : (path : List ℕ) → is_path path ≡ true → IsFolder path ⊎ IsFile path
unfolding is_path
kinds path e = ⊎_elim (λ f. inl (folder_is path f)) (λ f. inr (file_is path f)) (either _ _ e)

pub parent_path : (path : List ℕ) → is_path path ≡ true → is_folder_path (parent_of path) ≡ true
parent_path path e = ⊎_elim (λ f. folder_path _ (parent_folder path f)) (λ f. folder_path _ (parent_file path f)) (kinds path e)

-- what stands before the backslash at the end, if there is one, tells the parent
pub parent_without_end : (path front : List ℕ) → path ≢ drive → path ≡ front ++ 92 ∷ [] → up_to_last front ≡ parent_of path
unfolding parent_of
parent_without_end path front other is =
    let apart : bytes_eq path drive ≡ false = differs in
    sym (ap (λ b. cond b path (up_to_last (take (length path - 1) path))) apart ∙ ap up_to_last (ap (λ (q : List ℕ). take (length q - 1) q) is ∙ without_last front 92))
  where
    differs : bytes_eq path drive ≡ false
    differs = elim (cases_Bool (bytes_eq path drive)) [
      | inl same ↦ absurd (other ((bytes_eq-Decides path drive).0 same))
      | inr apart ↦ apart
    ]

pub parent_open : (path : List ℕ) → is_path path ≡ true → ((front : List ℕ) → path ≢ front ++ 92 ∷ []) → up_to_last path ≡ parent_of path
parent_open path e open_end = ⊎_elim
    (λ f. let end = folder_end path f in absurd (open_end end.0 end.1))
    (λ f. ap up_to_last f.text ∙ up_to_folder f.folder f.name f.in_folder (part_plain f.name f.good) ∙ sym (ap parent_of f.text ∙ parent_of-file f.folder f.name f.in_folder f.good))
    (kinds path e)

-- what the calls make
fits : (n : ℕ) → n ≤ 259 → nat_lt 259 n ≡ false
fits n e = grind (arith, nat_tests)

pub folder_is_path : (path : List ℕ) → IsFolder path → is_path path ≡ true
unfolding is_path
folder_is_path path f = rw (folder_path path f) refl

pub file_is_path : (path : List ℕ) → IsFile path → is_path path ≡ true
unfolding is_path
file_is_path path f = rw (file_path path f) (or_true (is_folder_path path))

pub made_below : (folder p path : List ℕ) → is_folder_path folder ≡ true → is_part p ≡ true → path ≡ folder ++ p ++ 92 ∷ [] → length path ≤ 259 → IsFolder path
made_below folder p path f part is short =
    subst IsFolder (sym is) (folder_below folder p (folder_is folder f) part (ap (λ (q : List ℕ). nat_lt 259 (length q)) (sym is) ∙ fits (length path) short))

pub made_file : (folder p path : List ℕ) → is_folder_path folder ≡ true → is_part p ≡ true → path ≡ folder ++ p ++ [] → length path ≤ 259 → IsFile path
made_file folder p path f part is short = record {
  folder = folder;
  name = p;
  in_folder = folder_is folder f;
  good = part;
  text = is ∙ append-nil (folder ++ p);
  short = fits (length path) short;
}

-- a path ends with a backslash exactly where it is a folder's
pub only_file : (path : List ℕ) → is_path path ≡ true → ((front : List ℕ) → path ≢ front ++ 92 ∷ []) → (is_folder_path path ≡ false) × (is_file_path path ≡ true)
only_file path e open_end = (
  elim (cases_Bool (is_folder_path path)) [
    | inl is ↦ let end = folder_end path (folder_is path is) in absurd (open_end end.0 end.1)
    | inr is_not ↦ is_not
  ],
  ⊎_elim (λ f. let end = folder_end path f in absurd (open_end end.0 end.1)) (λ f. file_path path f) (kinds path e),
)

no_end : (folder p front : List ℕ) → IsFolder folder → is_part p ≡ true → folder ++ p ≡ front ++ 92 ∷ [] → ⊥
no_end folder p front f part is =
    let none : p ≡ [] = sym (last_of_folder folder p f (part_plain p part)) ∙ ap last_part is ∙ last_part-at front [] refl in
    let empty : (length p == 0) ≡ true = ap (λ (q : List ℕ). length q == 0) none in
    let some : (length p == 0) ≡ false = part_some p part in
    cc

pub only_folder : (path front : List ℕ) → is_path path ≡ true → path ≡ front ++ 92 ∷ [] → (is_folder_path path ≡ true) × (is_file_path path ≡ false)
only_folder path front e end = (
  ⊎_elim (λ f. folder_path path f) (λ f. absurd (no_end f.folder f.name front f.in_folder f.good (sym f.text ∙ end))) (kinds path e),
  elim (cases_Bool (is_file_path path)) [
    | inl is ↦ let f = file_is path is in absurd (no_end f.folder f.name front f.in_folder f.good (sym f.text ∙ end))
    | inr is_not ↦ is_not
  ],
)

-- the last backslash by its place
plain_by_place : (xs : List ℕ) → ((i : ℕ) → i < length xs → get_or xs i 0 ≢ 92) → no_backslash xs ≡ true
plain_by_place [] h = refl
plain_by_place (b ∷ xs) h =
    let other : is_backslash b ≡ false = elim (cases_Bool (is_backslash b)) [ inl is ↦ absurd (h 0 (omega arith) (eqb-true b 92 is)) | inr is_not ↦ is_not ] in
    and_true (not (is_backslash b)) (no_backslash xs) (ap not other) (plain_by_place xs (λ i lt. h (suc i) (omega arith)))

pub split_at_place : (s : List ℕ) (k : ℕ) → k < length s → get_or s k 0 ≡ 92 → ((i : ℕ) → k < i → i < length s → get_or s i 0 ≢ 92) → (take (k + 1) s ≡ up_to_last s) × (drop (k + 1) s ≡ last_part s)
split_at_place s k lt at rest =
    let plain : no_backslash (drop (k + 1) s) ≡ true =
    plain_by_place (drop (k + 1) s) (λ i less. let n = length-drop (k + 1) s in subst (λ b. b ≢ 92) (sym (get_or-drop (k + 1) s i 0)) (rest (k + 1 + i) (omega arith) (omega arith))) in
    let whole : s ≡ take k s ++ 92 ∷ drop (k + 1) s =
    sym (take-append-drop k s) ∙ ap (λ (q : List ℕ). take k s ++ q) (drop-cons s k 0 lt ∙ ap (λ b. b ∷ drop (suc k) s) at ∙ ap (λ j. 92 ∷ drop j s) (sym (add-one k))) in (
      ((take_at_read s k 0 lt).1 ∙ ap (λ b. take k s ++ b ∷ []) at) ∙ sym (ap up_to_last whole ∙ up_to_last-at (take k s) (drop (k + 1) s) plain),
      sym (ap last_part whole ∙ last_part-at (take k s) (drop (k + 1) s) plain),
    )

pub split_nowhere : (s : List ℕ) → ((i : ℕ) → i < length s → get_or s i 0 ≢ 92) → ([] ≡ up_to_last s) × (s ≡ last_part s)
split_nowhere s h = let plain = plain_by_place s h in (sym (up_to_none s plain), sym (last_of_plain s plain))

pub parent_of-drive : (path : List ℕ) → bytes_eq path drive ≡ true → path ≡ parent_of path
unfolding parent_of
parent_of-drive path e = sym (ap (λ b. cond b path (up_to_last (take (length path - 1) path))) e)

pub other_than_drive : (path : List ℕ) → bytes_eq path drive ≡ false → path ≢ drive
other_than_drive path e same = let is : bytes_eq path drive ≡ true = (bytes_eq-Decides path drive).1 same in let wrong : true ≡ false = sym is ∙ e in cc

-- joined parts, tested at their backslashes
split_some : (xs : List ℕ) → 0 < length (slice_split is_backslash xs)
split_some xs = let n = length-slice_split is_backslash xs in omega arith

joined_onto : (x : ℕ) (ps : List (List ℕ)) → 0 < length ps → joined (onto_first x ps) ≡ x ∷ joined ps
joined_onto x [] some = absurd (let z : ⊥ = omega arith in z)
joined_onto x (p ∷ ps) some = refl

onto_push : (x : ℕ) (ps : List (List ℕ)) → 0 < length ps → onto_first x (ps ++ [] ∷ []) ≡ onto_first x ps ++ [] ∷ []
onto_push x [] some = absurd (let z : ⊥ = omega arith in z)
onto_push x (p ∷ ps) some = refl

joined_split : (xs : List ℕ) → joined (slice_split is_backslash xs) ≡ xs ++ 92 ∷ []
joined_split [] = refl
joined_split (x ∷ xs) =
    elim (is_backslash x) as (λ b. is_backslash x ≡ b → joined (cond b ([] ∷ slice_split is_backslash xs) (onto_first x (slice_split is_backslash xs))) ≡ x ∷ (xs ++ 92 ∷ [])) [
      | true ↦ λ is. ap (λ y. y ∷ joined (slice_split is_backslash xs)) (sym (eqb-true x 92 is)) ∙ ap (λ (q : List ℕ). x ∷ q) (joined_split xs)
      | false ↦ λ is. joined_onto x (slice_split is_backslash xs) (split_some xs) ∙ ap (λ (q : List ℕ). x ∷ q) (joined_split xs)
    ] refl

split_push : (xs : List ℕ) → slice_split is_backslash (xs ++ 92 ∷ []) ≡ slice_split is_backslash xs ++ [] ∷ []
split_push [] = refl
split_push (x ∷ xs) =
    elim (is_backslash x) as (λ b. cond b ([] ∷ slice_split is_backslash (xs ++ 92 ∷ [])) (onto_first x (slice_split is_backslash (xs ++ 92 ∷ []))) ≡ cond b ([] ∷ slice_split is_backslash xs) (onto_first x (slice_split is_backslash xs)) ++ [] ∷ []) [
      | true ↦ ap (λ (q : List (List ℕ)). [] ∷ q) (split_push xs)
      | false ↦ ap (onto_first x) (split_push xs) ∙ onto_push x (slice_split is_backslash xs) (split_some xs)
    ]

pub parts_by_split : (rest front : List ℕ) → rest ≡ front ++ 92 ∷ [] → all_parts (slice_split is_backslash front) ≡ true → AreJoinedParts rest
parts_by_split rest front is good = (slice_split is_backslash front, good, is ∙ sym (joined_split front))

pub split_by_parts : (rest front : List ℕ) → rest ≡ front ++ 92 ∷ [] → AreJoinedParts rest → all_parts (slice_split is_backslash front) ≡ true
split_by_parts rest front is parts =
    let same : slice_split is_backslash front ++ [] ∷ [] ≡ parts.0 ++ [] ∷ [] =
    sym (split_push front) ∙ ap (slice_split is_backslash) (sym is ∙ parts.2) ∙ split_joined parts.0 parts.1 in
    ap all_parts ((same_from_push (slice_split is_backslash front) parts.0 [] [] same).0) ∙ parts.1

pub parts_end : (rest : List ℕ) → AreJoinedParts rest → (rest ≡ []) ⊎ ((front : List ℕ) × (rest ≡ front ++ 92 ∷ []))
parts_end rest ([], good, is) = inl is
parts_end rest (p ∷ ps, good, is) = let end = joined_end p ps in inr (end.0, is ∙ end.1)

pub folder_by_parts : (path rest : List ℕ) → path ≡ drive ++ rest → length path ≤ 259 → AreJoinedParts rest → IsFolder path
folder_by_parts path rest is short parts = record { parts = parts.0; good = parts.1; text = is ∙ ap (λ (q : List ℕ). drive ++ q) parts.2; short = fits (length path) short }

pub parts_by_folder : (path rest : List ℕ) → path ≡ drive ++ rest → IsFolder path → AreJoinedParts rest
parts_by_folder path rest is f = (f.parts, f.good, let whole : drive ++ rest ≡ drive ++ joined f.parts = sym is ∙ f.text in cc)

pub folder_by_test : (path rest : List ℕ) (b : Bool) → path ≡ drive ++ rest → length path ≤ 259 → (b ≡ true ↔ AreJoinedParts rest) → b ≡ is_folder_path path
folder_by_test path rest true is short tells = sym (folder_path path (folder_by_parts path rest is short (tells.0 refl)))
folder_by_test path rest false is short tells =
    elim (cases_Bool (is_folder_path path)) [
      | inl folder ↦ let wrong : false ≡ true = tells.1 (parts_by_folder path rest is (folder_is path folder)) in cc
      | inr not_folder ↦ sym not_folder
    ]

pub no_folder : (path : List ℕ) → (IsFolder path → ⊥) → false ≡ is_folder_path path
no_folder path fails = elim (cases_Bool (is_folder_path path)) [ inl folder ↦ absurd (fails (folder_is path folder)) | inr not_folder ↦ sym not_folder ]

pub too_long : (path : List ℕ) → 259 < length path → IsFolder path → ⊥
too_long path long f = let over : nat_lt 259 (length path) ≡ true = grind (arith, nat_tests) in let under = f.short in cc

-- the laws of paths
pub folder_law : (path : List ℕ) → is_folder_path path ≡ true ↔ (folder_of path ≡ Ok path)
folder_law path = (λ e. folder_reads path (folder_is path e), λ e. folder_path path (read_folder path path e))

read_again : (r : Result (List ℕ) PathFault) (text : List ℕ) → folder_of text ≡ r → IfOk r (λ p. folder_of p ≡ Ok p)
read_again (Ok p) text e = folder_reads p (read_folder text p e)
read_again (Err f) text e = tt

pub canonical_law : (text : List ℕ) → IfOk (folder_of text) (λ p. folder_of p ≡ Ok p)
canonical_law text = read_again (folder_of text) text refl

pub apart_law : (path : List ℕ) → is_folder_path path ≡ true → is_file_path path ≡ false
apart_law path e = let f = folder_is path e in let end = folder_end path f in (only_folder path end.0 (folder_is_path path f) end.1).1

fitted_law : (path : List ℕ) (P : List ℕ → Type 0) → (nat_lt 259 (length path) ≡ false → P path) → IfOk (fitted path) P
fitted_law path P h = elim (nat_lt 259 (length path)) as (λ b. nat_lt 259 (length path) ≡ b → IfOk (cond b (Err Length) (Ok path)) P) [ true ↦ λ e. tt | false ↦ λ e. h e ] refl

made_law : (part path : List ℕ) (P : List ℕ → Type 0) → (is_part part ≡ true → nat_lt 259 (length path) ≡ false → P path) → IfOk (cond (is_part part) (fitted path) (Err BadPart)) P
made_law part path P h = elim (is_part part) as (λ b. is_part part ≡ b → IfOk (cond b (fitted path) (Err BadPart)) P) [ true ↦ λ e. fitted_law path P (h e) | false ↦ λ e. tt ] refl

pub below_law : (folder part : List ℕ) → is_folder_path folder ≡ true → IfOk (below_of folder part) (λ p. (parent_of p ≡ folder) × IsTrue (is_folder_path p))
below_law folder part e =
    let f = folder_is folder e in
    made_law part (folder ++ part ++ 92 ∷ []) _ (λ good short. (parent_of-below folder part f good, folder_path _ (folder_below folder part f good short)))

pub file_law : (folder part : List ℕ) → is_folder_path folder ≡ true → IfOk (file_of folder part) (λ p. (parent_of p ≡ folder) × IsTrue (is_file_path p))
file_law folder part e =
    let f = folder_is folder e in
    made_law part (folder ++ part) _ (λ good short. (parent_of-file folder part f good, file_path _ (record { folder = folder; name = part; in_folder = f; good = good; text = refl; short = short })))
