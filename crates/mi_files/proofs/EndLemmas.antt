-- The folders down to a folder, by the places at which they end.
use Rattle.std.proofs.Common.{◌≡◌, ℕ, zero, suc, ◌+◌, ◌<◌, ◌≤◌, Bool, true, false, not, cond, ◌&&◌, List, [], ◌∷◌, ◌++◌, length, map, take, refl, sym, ap, ◌∙◌, subst, arith, add-one, append_assoc, length-append}
use Rattle.std.specs.Prelude.{filter, ◌==◌, nat_lt}
use Rattle.std.specs.List.{slice_split, slice_index_or}
use Rattle.std.proofs.lemmas.Bool.Decides.{nat_tests}
use Rattle.mi_text.specs.Path.{is_backslash, is_part, is_folder_path, path_on, path_text, joined}
use Rattle.mi_text.proofs.PathLemmas.{IsFolder, folder_is, folder_path, all_parts, no_backslash, drive}
use Rattle.mi_model.specs.Parents.{parts_of, fronts, folders_down_to}

both : (a b : Bool) → (a && b) ≡ true → (a ≡ true) × (b ≡ true)
both true b e = (refl, e)
both false b e = cc

untrue : (b : Bool) → not b ≡ true → b ≡ false
untrue true e = cc
untrue false e = refl

plain_part : (p : List ℕ) → is_part p ≡ true → no_backslash p ≡ true
plain_part p e = (both _ _ (both _ _ e).0).1

some_part : (p : List ℕ) → is_part p ≡ true → (length p == 0) ≡ false
some_part p e = untrue _ (both _ _ (both _ _ e).0).0

-- ---- the parts of a folder

split_part : (p rest : List ℕ) → no_backslash p ≡ true → slice_split is_backslash (p ++ 92 ∷ rest) ≡ p ∷ slice_split is_backslash rest
split_part [] rest e = refl
split_part (b ∷ p) rest e =
    let parts = both (not (is_backslash b)) (no_backslash p) e in
    rw (untrue (is_backslash b) parts.0, split_part p rest parts.1) refl

-- what stands between backslashes and isn't empty
parts_again : (ps : List (List ℕ)) → all_parts ps ≡ true → parts_of (joined ps) ≡ ps
parts_again [] e = refl
parts_again (p ∷ ps) e =
    ap (filter (λ part. not (length part == 0))) (split_part p (joined ps) (plain_part p (both _ _ e).0))
    ∙ ap (λ b. cond (not b) (p ∷ parts_of (joined ps)) (parts_of (joined ps))) (some_part p (both _ _ e).0)
    ∙ ap (λ (qs : List (List ℕ)). p ∷ qs) (parts_again ps (both _ _ e).1)

-- ---- where folders end

-- behind each backslash but that of the drive
abbrev pub ends_from : ℕ → List ℕ → List ℕ
ends_from place [] = []
ends_from place (b ∷ bs) = cond (nat_lt 2 place && (b == 92)) ((place + 1) ∷ ends_from (place + 1) bs) (ends_from (place + 1) bs)

-- the first bytes up to each of these places
abbrev pub cut_at : List ℕ → List ℕ → List (List ℕ)
cut_at path ends = map (λ end. take end path) ends

-- past the drive
past : (place : ℕ) → 2 < place → nat_lt 2 place ≡ true
past place lt = grind (arith, nat_tests)

nothing_more : (a : ℕ) → a ≡ a + 0
nothing_more a = omega arith

-- a part has no end within
ends_part : (place : ℕ) (p rest : List ℕ) → 2 < place → no_backslash p ≡ true → ends_from place (p ++ 92 ∷ rest) ≡ (place + length p + 1) ∷ ends_from (place + length p + 1) rest
ends_part place [] rest lt e = ap (λ t. cond (t && true) ((place + 1) ∷ ends_from (place + 1) rest) (ends_from (place + 1) rest)) (past place lt) ∙ ap (λ n. (n + 1) ∷ ends_from (n + 1) rest) (nothing_more place)
ends_part place (b ∷ p) rest lt e =
    ap (λ t. cond (nat_lt 2 place && t) ((place + 1) ∷ ends_from (place + 1) (p ++ 92 ∷ rest)) (ends_from (place + 1) (p ++ 92 ∷ rest))) (untrue (is_backslash b) (both (not (is_backslash b)) (no_backslash p) e).0)
    ∙ ap (λ t. cond t ((place + 1) ∷ ends_from (place + 1) (p ++ 92 ∷ rest)) (ends_from (place + 1) (p ++ 92 ∷ rest))) (and_no (nat_lt 2 place))
    ∙ ends_part (place + 1) p rest (omega arith) (both _ _ e).1
    ∙ ap (λ n. (n + 1) ∷ ends_from (n + 1) rest) (on place (length p))
  where
    and_no : (t : Bool) → (t && false) ≡ false
    and_no true = refl
    and_no false = refl

    on : (a n : ℕ) → a + 1 + n ≡ a + suc n
    on a n = omega arith

one_more : (path p rest : List ℕ) → path ++ (p ++ 92 ∷ rest) ≡ (path ++ p ++ 92 ∷ []) ++ rest
one_more path p rest = sym (append_assoc (path ++ p) (92 ∷ []) rest ∙ append_assoc path p (92 ∷ rest))

take_front : (before bs : List ℕ) → take (length before) (before ++ bs) ≡ before
take_front [] bs = refl
take_front (x ∷ before) bs = ap (λ (xs : List ℕ). x ∷ xs) (take_front before bs)

longer : (path p : List ℕ) → length (path ++ p ++ 92 ∷ []) ≡ length path + length p + 1
longer path p = omega (arith, length-append (path ++ p) (92 ∷ []), length-append path p)

-- behind another part
each_behind : (path p : List ℕ) (fs : List (List (List ℕ))) → is_part p ≡ true → map (path_on path) (map (λ (f : List (List ℕ)). p ∷ f) fs) ≡ map (path_on (path ++ p ++ 92 ∷ [])) fs
each_behind path p [] e = refl
each_behind path p (f ∷ fs) e = ap (λ b. path_on (cond b path (path ++ p ++ 92 ∷ [])) f ∷ map (path_on path) (map (λ (f : List (List ℕ)). p ∷ f) fs)) (some_part p e) ∙ ap (λ (ts : List (List ℕ)). path_on (path ++ p ++ 92 ∷ []) f ∷ ts) (each_behind path p fs e)

cut_parts : (path : List ℕ) (ps : List (List ℕ)) → 2 < length path → all_parts ps ≡ true → cut_at (path ++ joined ps) (ends_from (length path) (joined ps)) ≡ map (path_on path) (fronts ps)
cut_parts path [] lt e = refl
cut_parts path (p ∷ ps) lt e =
    let good : is_part p ≡ true = (both _ _ e).0 in
    let more : List ℕ = path ++ p ++ 92 ∷ [] in
    let long : length path + length p + 1 ≡ length more = sym (longer path p) in
    ap (cut_at (path ++ (p ++ 92 ∷ joined ps))) (ends_part (length path) p (joined ps) lt (plain_part p good) ∙ ap (λ n. n ∷ ends_from n (joined ps)) long)
    ∙ ap (λ (whole : List ℕ). cut_at whole (length more ∷ ends_from (length more) (joined ps))) (one_more path p (joined ps))
    ∙ ap (λ (t : List ℕ). t ∷ cut_at (more ++ joined ps) (ends_from (length more) (joined ps))) (take_front more (joined ps))
    ∙ ap (λ (ts : List (List ℕ)). more ∷ ts) (cut_parts more ps (omega (arith, long, lt)) (both _ _ e).1 ∙ sym (each_behind path p (fronts ps) good))
    ∙ ap (λ b. cond b path more ∷ map (path_on path) (map (λ (f : List (List ℕ)). p ∷ f) (fronts ps))) (sym (some_part p good))

pub folders_at_ends : (path : List ℕ) → is_folder_path path ≡ true → cut_at path (ends_from 0 path) ≡ folders_down_to path
folders_at_ends path e = by (folder_is path e)
  where
    by : IsFolder path → cut_at path (ends_from 0 path) ≡ folders_down_to path
    by f =
        ap (λ (p : List ℕ). cut_at p (ends_from 0 p)) f.text
        ∙ cut_parts drive f.parts (omega arith) f.good
        ∙ ap (λ (ps : List (List ℕ)). map path_text (fronts ps)) (sym (parts_again f.parts f.good))
        ∙ sym (ap folders_down_to f.text)

-- ---- what ends there is a folder

-- parts that end where a part does
pub record EndsAt (p : List ℕ) (ps : List (List ℕ)) (place : ℕ) : Type 0 where
  pub parts : List (List ℕ)
  pub good : all_parts parts ≡ true
  pub cut : take (suc place) (p ++ 92 ∷ joined ps) ≡ p ++ 92 ∷ joined parts

end_at : (p : List ℕ) (ps : List (List ℕ)) (place : ℕ) → no_backslash p ≡ true → all_parts ps ≡ true → place < length (p ++ 92 ∷ joined ps) → (slice_index_or (p ++ 92 ∷ joined ps) place 0 == 92) ≡ true → EndsAt p ps place
end_at [] ps zero plain good lt slash = record { parts = []; good = refl; cut = refl }
end_at [] [] (suc k) plain good lt slash = absurd (omega arith)
end_at [] (q ∷ qs) (suc k) plain good lt slash =
    let rest = end_at q qs k (plain_part q (both _ _ good).0) (both _ _ good).1 (omega arith) slash in
    record { parts = q ∷ rest.parts; good = ap (λ t. t && all_parts rest.parts) (both (is_part q) (all_parts qs) good).0 ∙ rest.good; cut = ap (λ (xs : List ℕ). 92 ∷ xs) rest.cut }
end_at (b ∷ p) ps zero plain good lt slash = let no : (b == 92) ≡ false = untrue (is_backslash b) (both _ _ plain).0 in cc
end_at (b ∷ p) ps (suc k) plain good lt slash =
    let rest = end_at p ps k (both _ _ plain).1 good (omega arith) slash in
    record { parts = rest.parts; good = rest.good; cut = ap (λ (xs : List ℕ). b ∷ xs) rest.cut }

long_take : (n : ℕ) (xs : List ℕ) → n ≤ length xs → length (take n xs) ≡ n
long_take zero xs le = refl
long_take (suc n) [] le = absurd (omega arith)
long_take (suc n) (x ∷ xs) le = let rest = long_take n xs (omega arith) in omega (arith, rest)

pub folder_ends : (path : List ℕ) (place : ℕ) → is_folder_path path ≡ true → 2 < place → place < length path → (slice_index_or path place 0 == 92) ≡ true → (is_folder_path (take (place + 1) path) && not (length (take (place + 1) path) == 3)) ≡ true
folder_ends path place e past_drive lt slash = by (folder_is path e)
  where
    long : length (take (place + 1) path) ≡ place + 1
    long = long_take (place + 1) path (omega arith)

    inner : (length (take (place + 1) path) == 3) ≡ false
    inner = grind (arith, nat_tests, long, past_drive)

    by : IsFolder path → (is_folder_path (take (place + 1) path) && not (length (take (place + 1) path) == 3)) ≡ true
    by f =
        let at = end_at (67 ∷ 58 ∷ []) f.parts place refl f.good (subst (λ (p : List ℕ). place < length p) f.text lt) (subst (λ (p : List ℕ). (slice_index_or p place 0 == 92) ≡ true) f.text slash) in
        let folder : IsFolder (take (place + 1) path) = record {
          parts = at.parts;
          good = at.good;
          text = ap (λ n. take n path) (add-one place) ∙ ap (take (suc place)) f.text ∙ at.cut;
          short = let short = f.short in grind (arith, nat_tests, long, lt);
        } in
        rw (folder_path (take (place + 1) path) folder, inner) refl
