-- The keys and folders that rows make above what they set: their names get longer and longer.
use Rattle.std.proofs.Common.{◌≡◌, ℕ, ◌+◌, ◌<◌, Bool, true, false, cond, not, ◌||◌, List, [], ◌∷◌, ◌++◌, filter, length, drop, codes, Option, refl, arith, length-append}
use Rattle.std.specs.Prelude.{nat_eq, ◌==◌}
use Rattle.std.specs.List.{AllByRecursion, slice_split}
use Rattle.std.proofs.lemmas.Bool.Decides.{nat_tests}
use Rattle.mi_text.specs.Maps.{Name}
use Rattle.mi_text.specs.Path.{is_backslash, path_on, path_text, up_to_last}
use Rattle.mi_base.specs.declared.entry.Entry.{Entry}
use Rattle.mi_base.specs.declared.entry.Entry.TheVariants.{Folder, Key}
use Rattle.mi_base.specs.Names.{key_name, folder_name}
use Rattle.mi_base.proofs.FoldLemmas.{length-folded}
use Rattle.mi_changes.specs.Touches.{Set}
use Rattle.mi_model.specs.Texts.{Text}
use Rattle.mi_model.specs.Parents.{parts_of, fronts, or_new, key_text, keys_down_to, key_with_parents, folders_down_to, folder_with_parents, parents_of_path}
use Rattle.mi_laws.proofs.PlainCountLemmas.{AreOnce, AreOf, one_of, both_of, RiseFrom, rise-map, rising_of}

-- ---- kinds of names, by their first bytes

abbrev pub begins : ℕ → Name → Bool
begins letter [] = false
begins letter (b ∷ rest) = nat_eq b letter

abbrev pub is_key : Name → Bool
is_key q = begins 107 q

abbrev pub is_folder : Name → Bool
is_folder q = begins 100 q

abbrev pub is_value : Name → Bool
is_value q = begins 118 q

-- names with one first byte have no other
pub begin_apart : (a b : ℕ) (q : Name) → nat_eq a b ≡ false → begins a q ≡ true → begins b q ≡ false
begin_apart a b [] apart e = refl
begin_apart a b (c ∷ rest) apart e = grind (arith, nat_tests)

-- ---- fronts

-- what grows with each element grows along the fronts
fronts_rise : {A : Type 0} → (IsGood : A → Type 0) (f : List A → ℕ) (xs : List A) → AllByRecursion IsGood xs
    → ((front : List A) (x : A) → IsGood x → f front < f (front ++ x ∷ [])) → RiseFrom f (f []) (fronts xs)
fronts_rise IsGood f [] good grows = tt
fronts_rise IsGood f (x ∷ xs) good grows =
    (grows [] x good.0, rise-map (λ front. x ∷ front) f (f (x ∷ [])) (fronts xs) (fronts_rise IsGood (λ front. f (x ∷ front)) xs good.1 (λ front. grows (x ∷ front))))

abbrev IsPart : Text → Type 0
IsPart part = 0 < length part

filled : (texts : List Text) → AllByRecursion IsPart (filter (λ part. not (length part == 0)) texts)
filled [] = tt
filled (t ∷ texts) = elim (length t == 0) as (λ b. (length t == 0) ≡ b → AllByRecursion IsPart (cond (not b) (t ∷ filter (λ part. not (length part == 0)) texts) (filter (λ part. not (length part == 0)) texts))) [
  | true ↦ λ e. filled texts
  | false ↦ λ e. (some (length t) e, filled texts)
] refl
  where
    some : (n : ℕ) → (n == 0) ≡ false → 0 < n
    some n e = grind (arith, nat_tests)

-- ---- keys

key_grows : (front : List Text) (x : Text) → IsPart x → length (key_text front) < length (key_text (front ++ x ∷ []))
key_grows [] x part = part
key_grows (a ∷ []) x part = omega (arith, length-append a (92 ∷ x), part)
key_grows (a ∷ b ∷ front) x part = omega (arith, key_grows (b ∷ front) x part, length-append a (92 ∷ key_text (b ∷ front)), length-append a (92 ∷ key_text (b ∷ front ++ x ∷ [])))

length-key_name : (root : ℕ) (key : Text) → length (key_name root key) ≡ 3 + length key
unfolding key_name
length-key_name root key = omega (arith, length-folded key)

pub keys_of : (root : ℕ) (key : Text) → AreOf is_key (key_with_parents root key)
unfolding key_name
keys_of root key = rising_of is_key (key_name root) (λ k. or_new (Key root k)) (length (key_name root (key_text []))) (keys_down_to key) (λ k. refl)
    (rise-map key_text (λ k. length (key_name root k)) (length (key_name root (key_text []))) (fronts (parts_of key))
    (fronts_rise IsPart (λ front. length (key_name root (key_text front))) (parts_of key) (filled (slice_split is_backslash key))
    (λ front x part. omega (arith, length-key_name root (key_text front), length-key_name root (key_text (front ++ x ∷ [])), key_grows front x part))))

-- what stands in a key, behind the key
pub value_in_key : (root : ℕ) (key : Text) (n : Name) (change : Option Entry → Option Entry) → is_value n ≡ true → AreOf (λ q. is_key q || is_value q) (key_with_parents root key ++ Set n change ∷ [])
value_in_key root key n change is = both_of is_key is_value (key_with_parents root key) (Set n change ∷ []) (λ q. begin_apart 107 118 q refl) (keys_of root key) (one_of is_value n change is)

-- ---- folders

folder_grows : (path : Text) (front : List Text) (x : Text) → IsPart x → length (path_on path front) < length (path_on path (front ++ x ∷ []))
folder_grows path [] x part = added (length x == 0) refl
  where
    added : (b : Bool) → (length x == 0) ≡ b → length path < length (cond b path (path ++ x ++ 92 ∷ []))
    added true e = absurd (let z : ⊥ = empty (length x) e part in z)
      where
        empty : (n : ℕ) → (n == 0) ≡ true → 0 < n → ⊥
        empty n e lt = grind (arith, nat_tests)
    added false e = let longer : length path < length (path ++ x ++ 92 ∷ []) = omega (arith, length-append (path ++ x) (92 ∷ []), length-append path x) in longer
folder_grows path (a ∷ front) x part = folder_grows (cond (length a == 0) path (path ++ a ++ 92 ∷ [])) front x part

length-folder_name : (path : Text) → length (folder_name path) ≡ 2 + length path
unfolding folder_name
length-folder_name path = omega (arith, length-folded path)

pub folders_of : (folder : Text) → AreOf is_folder (folder_with_parents folder)
unfolding folder_name
folders_of folder = rising_of is_folder folder_name (λ f. or_new (Folder f)) (length (folder_name (path_text []))) (folders_down_to folder) (λ f. refl)
    (rise-map path_text (λ f. length (folder_name f)) (length (folder_name (path_text []))) (fronts (parts_of (drop 3 folder)))
    (fronts_rise IsPart (λ front. length (folder_name (path_text front))) (parts_of (drop 3 folder)) (filled (slice_split is_backslash (drop 3 folder)))
    (λ front x part. omega (arith, length-folder_name (path_text front), length-folder_name (path_text (front ++ x ∷ [])), folder_grows (codes "C:\\") front x part))))

-- what lies in a folder, behind the folder
pub once_in_folder : (letter : ℕ) (path : Text) (n : Name) (change : Option Entry → Option Entry) → nat_eq 100 letter ≡ false → begins letter n ≡ true → AreOnce (parents_of_path path ++ Set n change ∷ [])
once_in_folder letter path n change other is =
    (both_of is_folder (begins letter) (parents_of_path path) (Set n change ∷ []) (λ q. begin_apart 100 letter q other) (folders_of (up_to_last path)) (one_of (begins letter) n change is)).once
