-- Folders that are made, one after the other.
use Rattle.std.proofs.Common.{◌≡◌, ℕ, suc, ◌+◌, ◌<◌, ◌≤◌, Bool, true, false, cond, ◌&&◌, List, [], ◌∷◌, ◌++◌, length, map, take, drop, refl, sym, ap, ◌∙◌, subst, arith, add-one, append_assoc, append-nil, drop-cons}
use Rattle.std.specs.Prelude.{◌==◌, nat_lt}
use Rattle.std.specs.List.{slice_index_or}
use Rattle.std.proofs.lemmas.Bool.Decides.{nat_tests}
use Rattle.std.proofs.lemmas.List.{map-append, drop_all}
use Rattle.mi_text.specs.Path.{is_folder_path}
use Rattle.mi_base.specs.declared.entry.Entry.TheVariants as entry
use Rattle.mi_base.specs.Limits.{fits}
use Rattle.mi_base.specs.Machine.{Machine}
use Rattle.mi_source.specs.Paths.{Files}
use Rattle.mi_script.specs.declared.rec.Rec.{Rec}
use Rattle.mi_model.specs.Parents.{folder_touch, folder_with_parents}
use Rattle.mi_steps.specs.Follows.{Follows}
use Rattle.mi_steps.proofs.FollowLemmas.{started, joined}
use Rattle.mi_files.proofs.EndLemmas.{ends_from, cut_at, folders_at_ends, folder_ends}

-- a place at which a folder ends
abbrev pub ends_folder : List ℕ → ℕ → Bool
ends_folder path place = nat_lt 2 place && (slice_index_or path place 0 == 92)

pub ends_there : (path : List ℕ) (place : ℕ) → 2 < place → (slice_index_or path place 0 == 92) ≡ true → ends_folder path place ≡ true
ends_there path place past slash = let behind : nat_lt 2 place ≡ true = grind (arith, nat_tests) in rw (behind, slash) refl

pub ends_not : (path : List ℕ) (place : ℕ) → (slice_index_or path place 0 == 92) ≡ false → ends_folder path place ≡ false
ends_not path place other = ap (λ t. nat_lt 2 place && t) other ∙ by (nat_lt 2 place)
  where
    by : (b : Bool) → (b && false) ≡ false
    by true = refl
    by false = refl

pub in_drive : (path : List ℕ) (place : ℕ) → place ≤ 2 → ends_folder path place ≡ false
in_drive path place le = let before : nat_lt 2 place ≡ false = grind (arith, nat_tests) in ap (λ t. t && (slice_index_or path place 0 == 92)) before

pub folder_fits : (path : List ℕ) (place : ℕ) → is_folder_path path ≡ true → 2 < place → place < length path → (slice_index_or path place 0 == 92) ≡ true → fits (entry.Folder (take (place + 1) path)) ≡ true
unfolding fits
folder_fits path place is past lt slash = folder_ends path place is past lt slash

-- the folders that end before this place are made
pub record Along (files : Files) (a b : Machine) (h i : List Rec) (path : List ℕ) (place : ℕ) : Type 0 where
  pub before : List ℕ
  pub ends : ends_from 0 path ≡ before ++ ends_from place (drop place path)
  pub follows : Follows files a b h i (map folder_touch (cut_at path before))

pub along_start : (files : Files) (a : Machine) (h : List Rec) (path : List ℕ) → Along files a a h h path 0
along_start files a h path = record { before = []; ends = refl; follows = started files a h }

module _ (files : Files) (a b : Machine) (h i : List Rec) (path : List ℕ) (place : ℕ) (along : Along files a b h i path place) where
  next : place < length path → (t : Bool) → ends_folder path place ≡ t → ends_from place (drop place path) ≡ cond t ((place + 1) ∷ ends_from (place + 1) (drop (place + 1) path)) (ends_from (place + 1) (drop (place + 1) path))
  next lt t is =
      ap (ends_from place) (drop-cons path place 0 lt)
      ∙ ap (λ b. cond b ((place + 1) ∷ ends_from (place + 1) (drop (suc place) path)) (ends_from (place + 1) (drop (suc place) path))) is
      ∙ ap (λ n. cond t ((place + 1) ∷ ends_from (place + 1) (drop n path)) (ends_from (place + 1) (drop n path))) (sym (add-one place))

  -- no folder ends here
  pub along_pass : place < length path → ends_folder path place ≡ false → Along files a b h i path (place + 1)
  along_pass lt inner = record { before = along.before; ends = along.ends ∙ ap (λ (l : List ℕ). along.before ++ l) (next lt false inner); follows = along.follows }

  -- a folder that ends here is made
  pub along_end : (c : Machine) (j : List Rec) → place < length path → ends_folder path place ≡ true → Follows files b c i j (folder_touch (take (place + 1) path) ∷ []) → Along files a c h j path (place + 1)
  along_end c j lt ends one = record {
    before = along.before ++ (place + 1) ∷ [];
    ends = along.ends ∙ ap (λ (l : List ℕ). along.before ++ l) (next lt true ends) ∙ sym (append_assoc along.before ((place + 1) ∷ []) (ends_from (place + 1) (drop (place + 1) path)));
    follows = subst (λ ts. Follows files a c h j ts)
        (sym (ap (map folder_touch) (map-append (λ end. take end path) along.before ((place + 1) ∷ [])) ∙ map-append folder_touch (cut_at path along.before) (take (place + 1) path ∷ [])))
        (joined files a b c h i j (map folder_touch (cut_at path along.before)) (folder_touch (take (place + 1) path) ∷ []) along.follows one);
  }

  -- all of them are made
  pub along_all : length path ≤ place → is_folder_path path ≡ true → Follows files a b h i (folder_with_parents path)
  along_all at is = subst (λ folders. Follows files a b h i (map folder_touch folders)) (ap (cut_at path) (sym last) ∙ folders_at_ends path is) along.follows
    where
      last : ends_from 0 path ≡ along.before
      last = along.ends ∙ ap (λ (l : List ℕ). along.before ++ ends_from place l) (drop_all place path at) ∙ append-nil along.before
