-- Keys as parts between backslashes.
use Rattle.std.proofs.Common.{◌≡◌, ℕ, suc, ◌+◌, ◌<◌, Bool, true, false, not, cond, ◌&&◌, List, [], ◌∷◌, ◌++◌, length, map, take, drop, Bor, refl, sym, ap, ◌∙◌, arith, append_assoc, length-append, eqb-true}
use Rattle.std.specs.Prelude.{filter, ◌==◌, nat_le}
use Rattle.std.specs.List.{slice_split, onto_first, list_all, slice_index_or, join_by}
use Rattle.std.proofs.lemmas.List.{append-nil, take-append-drop}
use Rattle.std.proofs.lemmas.List.Folds.{list_all-append}
use Rattle.std.proofs.lemmas.List.Splits.{length-slice_split}
use Rattle.std.proofs.lemmas.Bool.Decides.{nat_tests}
use Rattle.std.proofs.Math.Seq.{drop-cons}
use Rattle.mi_base.specs.Limits.{is_key, has_no_zero, has_whole_parts}
use Rattle.mi_text.specs.Path.{is_backslash}
use Rattle.mi_model.specs.Parents.{key_text, fronts, keys_down_to}

-- ---- parts that are joined

pub joined_parts : (parts : List (Bor (List ℕ))) → join_by (λ (p : Bor (List ℕ)). p.now) (92 ∷ []) parts ≡ key_text (map (λ p. p.now) parts)
joined_parts [] = refl
joined_parts (x ∷ []) = append-nil x.now
joined_parts (x ∷ y ∷ parts) = ap (λ (rest : List ℕ). x.now ++ 92 ∷ rest) (joined_parts (y ∷ parts))

-- ---- a key's front is a key

onto_append : (x : ℕ) (ps qs : List (List ℕ)) → 0 < length ps → onto_first x (ps ++ qs) ≡ onto_first x ps ++ qs
onto_append x [] qs lt = absurd (omega arith)
onto_append x (p ∷ ps) qs lt = refl

some_part : (xs : List ℕ) → 0 < length (slice_split is_backslash xs)
some_part xs = let long = length-slice_split is_backslash xs in omega (arith, long)

pub split_cut : (xs : List ℕ) (y : ℕ) (ys : List ℕ) → (y == 92) ≡ true → slice_split is_backslash (xs ++ y ∷ ys) ≡ slice_split is_backslash xs ++ slice_split is_backslash ys
split_cut [] y ys is = ap (λ t. cond t ([] ∷ slice_split is_backslash ys) (onto_first y (slice_split is_backslash ys))) is
split_cut (x ∷ xs) y ys is =
    elim (x == 92) as (λ t. cond t ([] ∷ slice_split is_backslash (xs ++ y ∷ ys)) (onto_first x (slice_split is_backslash (xs ++ y ∷ ys))) ≡ cond t ([] ∷ slice_split is_backslash xs) (onto_first x (slice_split is_backslash xs)) ++ slice_split is_backslash ys) [
      | true ↦ ap (λ (ps : List (List ℕ)). [] ∷ ps) (split_cut xs y ys is)
      | false ↦ ap (onto_first x) (split_cut xs y ys is) ∙ onto_append x (slice_split is_backslash xs) (slice_split is_backslash ys) (some_part xs)
    ]

pub front : (a b : Bool) → (a && b) ≡ true → a ≡ true
front true b e = refl
front false b e = cc

pub back : (a b : Bool) → (a && b) ≡ true → b ≡ true
back true b e = e
back false b e = cc

abbrev full_part : List ℕ → Bool
full_part part = not (length part == 0)

front_key : (xs : List ℕ) (y : ℕ) (ys : List ℕ) → (y == 92) ≡ true → is_key (xs ++ y ∷ ys) ≡ true → is_key xs ≡ true
unfolding is_key
front_key xs y ys slash is =
    rw short (rw no_zero full)
  where
    short : nat_le (length xs) 500 ≡ true
    short =
        let whole : nat_le (length (xs ++ y ∷ ys)) 500 ≡ true = front (nat_le (length (xs ++ y ∷ ys)) 500) (has_no_zero (xs ++ y ∷ ys)) (front (nat_le (length (xs ++ y ∷ ys)) 500 && has_no_zero (xs ++ y ∷ ys)) (has_whole_parts (xs ++ y ∷ ys)) is) in
        let long = length-append xs (y ∷ ys) in
        grind (arith, nat_tests)

    no_zero : has_no_zero xs ≡ true
    no_zero = front (has_no_zero xs) (has_no_zero (y ∷ ys)) (sym (list_all-append (λ (b : ℕ). not (b == 0)) xs (y ∷ ys))
        ∙ back (nat_le (length (xs ++ y ∷ ys)) 500) (has_no_zero (xs ++ y ∷ ys)) (front (nat_le (length (xs ++ y ∷ ys)) 500 && has_no_zero (xs ++ y ∷ ys)) (has_whole_parts (xs ++ y ∷ ys)) is))

    full : has_whole_parts xs ≡ true
    full = front (has_whole_parts xs) (has_whole_parts ys)
        (sym (list_all-append full_part (slice_split is_backslash xs) (slice_split is_backslash ys)) ∙ ap (list_all full_part) (sym (split_cut xs y ys slash))
        ∙ back (nat_le (length (xs ++ y ∷ ys)) 500 && has_no_zero (xs ++ y ∷ ys)) (has_whole_parts (xs ++ y ∷ ys)) is)

pub key_front : (key : List ℕ) (place : ℕ) → place < length key → (slice_index_or key place 0 == 92) ≡ true → is_key key ≡ true → is_key (take place key) ≡ true
key_front key place lt slash is =
    front_key (take place key) (slice_index_or key place 0) (drop (suc place) key) slash
    (ap is_key (ap (λ (l : List ℕ). take place key ++ l) (sym (drop-cons key place 0 lt)) ∙ take-append-drop place key) ∙ is)

-- ---- the keys down to a key, by the places at which its parts end

-- the places at which parts end: before each backslash, and at the end
abbrev pub ends_from : ℕ → List ℕ → List ℕ
ends_from place [] = place ∷ []
ends_from place (b ∷ bs) = cond (b == 92) (place ∷ ends_from (place + 1) bs) (ends_from (place + 1) bs)

-- the first bytes up to each of these places
abbrev pub cut_at : List ℕ → List ℕ → List (List ℕ)
cut_at key ends = map (λ place. take place key) ends

-- the texts of the fronts of parts
abbrev texts_of : List (List ℕ) → List (List ℕ)
texts_of parts = map key_text (fronts parts)

-- each of them behind another text
abbrev behind_each : List ℕ → List (List ℕ) → List (List ℕ)
behind_each before texts = map (λ (t : List ℕ). before ++ t) texts

-- behind a part and a byte
on_from : (before : List ℕ) (b : ℕ) (texts : List (List ℕ)) → behind_each before (map (λ (t : List ℕ). b ∷ t) texts) ≡ behind_each (before ++ b ∷ []) texts
on_from before b [] = refl
on_from before b (t ∷ texts) = ap (λ (x : List ℕ). x ∷ behind_each before (map (λ (t : List ℕ). b ∷ t) texts)) (sym (append_assoc before (b ∷ []) t)) ∙ ap (λ (xs : List (List ℕ)). ((before ++ b ∷ []) ++ t) ∷ xs) (on_from before b texts)

-- an empty part in front puts a backslash in front of each
slash_each : (x : List ℕ) (fs : List (List (List ℕ))) → map key_text (map (λ (f : List (List ℕ)). [] ∷ f) (map (λ (f : List (List ℕ)). x ∷ f) fs)) ≡ map (λ (t : List ℕ). 92 ∷ t) (map key_text (map (λ (f : List (List ℕ)). x ∷ f) fs))
slash_each x [] = refl
slash_each x (f ∷ fs) = ap (λ (xs : List (List ℕ)). (92 ∷ key_text (x ∷ f)) ∷ xs) (slash_each x fs)

slash_front : (parts : List (List ℕ)) → texts_of ([] ∷ parts) ≡ [] ∷ map (λ (t : List ℕ). 92 ∷ t) (texts_of parts)
slash_front [] = refl
slash_front (x ∷ parts) = ap (λ (xs : List (List ℕ)). [] ∷ (92 ∷ x) ∷ xs) (slash_each x (fronts parts))

-- a byte more in the first part stands in front of each
more_text : (b : ℕ) (x : List ℕ) (f : List (List ℕ)) → key_text ((b ∷ x) ∷ f) ≡ b ∷ key_text (x ∷ f)
more_text b x [] = refl
more_text b x (y ∷ f) = refl

more_each : (b : ℕ) (x : List ℕ) (fs : List (List (List ℕ))) → map key_text (map (λ (f : List (List ℕ)). (b ∷ x) ∷ f) fs) ≡ map (λ (t : List ℕ). b ∷ t) (map key_text (map (λ (f : List (List ℕ)). x ∷ f) fs))
more_each b x [] = refl
more_each b x (f ∷ fs) = ap (λ (t : List ℕ). t ∷ map key_text (map (λ (f : List (List ℕ)). (b ∷ x) ∷ f) fs)) (more_text b x f) ∙ ap (λ (xs : List (List ℕ)). (b ∷ key_text (x ∷ f)) ∷ xs) (more_each b x fs)

more_front : (b : ℕ) (parts : List (List ℕ)) → 0 < length parts → texts_of (onto_first b parts) ≡ map (λ (t : List ℕ). b ∷ t) (texts_of parts)
more_front b [] lt = absurd (omega arith)
more_front b (x ∷ parts) lt = ap (λ (xs : List (List ℕ)). (b ∷ x) ∷ xs) (more_each b x (fronts parts))

one_longer : (before : List ℕ) (b : ℕ) → length (before ++ b ∷ []) ≡ length before + 1
one_longer before b = length-append before (b ∷ [])

take_front : (before bs : List ℕ) → take (length before) (before ++ bs) ≡ before ++ []
take_front [] bs = refl
take_front (x ∷ before) bs = ap (λ (xs : List ℕ). x ∷ xs) (take_front before bs)

-- what stands in front of the place stays
cut_behind : (before bs : List ℕ) → cut_at (before ++ bs) (ends_from (length before) bs) ≡ behind_each before (texts_of (slice_split is_backslash bs))
cut_behind before [] = ap (λ (t : List ℕ). t ∷ []) (take_front before [])
cut_behind before (b ∷ bs) =
    let next : cut_at (before ++ b ∷ bs) (ends_from (length before + 1) bs) ≡ behind_each (before ++ b ∷ []) (texts_of (slice_split is_backslash bs)) =
    ap (λ (key : List ℕ). cut_at key (ends_from (length before + 1) bs)) (sym (append_assoc before (b ∷ []) bs))
    ∙ ap (λ n. cut_at ((before ++ b ∷ []) ++ bs) (ends_from n bs)) (sym (one_longer before b))
    ∙ cut_behind (before ++ b ∷ []) bs in
    elim (b == 92) as (λ t. (b == 92) ≡ t → cut_at (before ++ b ∷ bs) (cond t (length before ∷ ends_from (length before + 1) bs) (ends_from (length before + 1) bs)) ≡ behind_each before (texts_of (cond t ([] ∷ slice_split is_backslash bs) (onto_first b (slice_split is_backslash bs))))) [
      | true ↦ λ is.
          ap (λ (t : List ℕ). t ∷ cut_at (before ++ b ∷ bs) (ends_from (length before + 1) bs)) (take_front before (b ∷ bs))
          ∙ ap (λ (xs : List (List ℕ)). (before ++ []) ∷ xs) (next ∙ sym (on_from before b (texts_of (slice_split is_backslash bs))) ∙ ap (λ (c : ℕ). behind_each before (map (λ (t : List ℕ). c ∷ t) (texts_of (slice_split is_backslash bs)))) (eqb-true b 92 is))
          ∙ ap (behind_each before) (sym (slash_front (slice_split is_backslash bs)))
      | false ↦ λ is. next ∙ sym (on_from before b (texts_of (slice_split is_backslash bs))) ∙ ap (behind_each before) (sym (more_front b (slice_split is_backslash bs) (some_part bs)))
    ] refl

itself_each : (texts : List (List ℕ)) → behind_each [] texts ≡ texts
itself_each [] = refl
itself_each (t ∷ texts) = ap (λ (xs : List (List ℕ)). t ∷ xs) (itself_each texts)

all_kept : (parts : List (List ℕ)) → list_all full_part parts ≡ true → filter full_part parts ≡ parts
all_kept [] e = refl
all_kept (p ∷ parts) e =
    ap (λ b. cond b (p ∷ filter full_part parts) (filter full_part parts)) (front (full_part p) (list_all full_part parts) e)
    ∙ ap (λ (ps : List (List ℕ)). p ∷ ps) (all_kept parts (back (full_part p) (list_all full_part parts) e))

key_whole : (key : List ℕ) → is_key key ≡ true → has_whole_parts key ≡ true
unfolding is_key
key_whole key is = back (nat_le (length key) 500 && has_no_zero key) (has_whole_parts key) is

pub keys_at_ends : (key : List ℕ) → is_key key ≡ true → cut_at key (ends_from 0 key) ≡ keys_down_to key
keys_at_ends key is =
    cut_behind [] key ∙ itself_each (texts_of (slice_split is_backslash key))
    ∙ ap texts_of (sym (all_kept (slice_split is_backslash key) (key_whole key is)))
