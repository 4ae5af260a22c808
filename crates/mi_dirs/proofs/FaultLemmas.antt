-- The first refusal of directories.
use Rattle.std.proofs.Common.{◌≡◌, ℕ, zero, suc, ◌+◌, ◌≤◌, ◌<◌, Bool, true, false, cond, List, [], ◌∷◌, length, map, Option, Some, None, refl, sym, ap, ◌∙◌, arith, zero-add, inl, inr}
use Rattle.std.specs.Prelude.{slice_get, option_map, option_and_then, is_none, not, find}
use Rattle.std.proofs.Math.ListN.{set}
use Rattle.std.proofs.lemmas.Bool.{cases_Bool}
use Rattle.std.proofs.lemmas.Option.{slice_get-map}
use Rattle.std.proofs.lemmas.List.{length-map}
use Rattle.mi_text.specs.Maps.{Name}
use Rattle.mi_dirs.specs.declared.dir.Dir.{Dir}
use Rattle.mi_dirs.specs.declared.dir.Own.{Own}
use Rattle.mi_dirs.specs.declared.fault.DirFault.TheVariants.{Cycle, BadPath}
use Rattle.mi_dirs.specs.Chains.{along, ends_in}
use Rattle.mi_dirs.specs.Order.{AreRows, IsFirstEndless}
use Rattle.mi_dirs.specs.Places.{Place, parent_at, target_from, target_step, target_at, bound, first_row, is_named, row_of, with_own}
use Rattle.mi_dirs.specs.Faults.{numbers_from, numbers, row_number, ends_at, cycle_fault, path_fault, IsEndless}
use Rattle.mi_dirs.specs.Views.{own_view, place_of_dir, places_in, with_row_own}
use Rattle.mi_dirs.proofs.ChainLemmas.{ends_within}
use Rattle.mi_dirs.proofs.FilledLemmas.{same_function}

-- ---- the first number that passes a test

-- no number does
pub find_none : {A : Type 0} (test : ℕ → Bool) (xs : List A) (n : ℕ) → ((k : ℕ) → k < length xs → test (n + k) ≡ false) → find test (numbers_from n xs) ≡ None
find_none test [] n h = refl
find_none test (x ∷ xs) n h =
    let first : test n ≡ false = ap test (let e : n ≡ n + 0 = omega arith in e) ∙ h 0 (omega arith) in
    ap (λ (b : Bool). cond b (Some n) (find test (numbers_from (suc n) xs))) first
    ∙ find_none test xs (suc n) (λ k lt. ap test (let e : suc n + k ≡ n + suc k = omega arith in e) ∙ h (suc k) (omega arith))

-- this one does, and none before it
pub find_at : {A : Type 0} (test : ℕ → Bool) (xs : List A) (n row : ℕ) → row < length xs → test (n + row) ≡ true → ((k : ℕ) → k < row → test (n + k) ≡ false) → find test (numbers_from n xs) ≡ Some (n + row)
find_at test [] n row lt is before = absurd (omega arith)
find_at test (x ∷ xs) n zero lt is before =
    let here : n + 0 ≡ n = omega arith in
    ap (λ (b : Bool). cond b (Some n) (find test (numbers_from (suc n) xs))) (ap test (sym here) ∙ is) ∙ ap Some (sym here)
find_at test (x ∷ xs) n (suc row) lt is before =
    let next : suc n + row ≡ n + suc row = omega arith in
    let first : test n ≡ false = ap test (let e : n ≡ n + 0 = omega arith in e) ∙ before 0 (omega arith) in
    ap (λ (b : Bool). cond b (Some n) (find test (numbers_from (suc n) xs))) first
    ∙ find_at test xs (suc n) row (omega arith) (ap test next ∙ is) (λ k le. ap test (let e : suc n + k ≡ n + suc k = omega arith in e) ∙ before (suc k) (omega arith))
    ∙ ap Some next

-- a list that has what each number has
find_listed : {A B : Type 0} (test : B → Bool) (value : ℕ → B) (xs : List A) (ts : List B) (n : ℕ) → length ts ≡ length xs → ((k : ℕ) → k < length xs → slice_get ts k ≡ Some (value (n + k)))
    → find (λ row. test (value row)) (numbers_from n xs) ≡ option_map (λ k. n + k) (first_row test ts)
find_listed test value [] [] n size h = refl
find_listed test value [] (t ∷ ts) n size h = absurd (omega arith)
find_listed test value (x ∷ xs) [] n size h = absurd (omega arith)
find_listed {A} {B} test value (x ∷ xs) (t ∷ ts) n size h =
    let zero_on : n + 0 ≡ n = omega arith in
    let here : Some t ≡ Some (value n) = h 0 (omega arith) ∙ ap (λ (m : ℕ). Some (value m)) zero_on in
    let same : t ≡ value n = cc in
    ap (λ (v : B). cond (test v) (Some n) (find (λ row. test (value row)) (numbers_from (suc n) xs))) (sym same)
    ∙ ap (cond (test t) (Some n)) (find_listed test value xs ts (suc n) (omega arith) (λ k lt. h (suc k) (omega arith) ∙ ap (λ (m : ℕ). Some (value m)) (let e : n + suc k ≡ suc n + k = omega arith in e)))
    ∙ moved (test t) (first_row test ts)
  where
    moved : (b : Bool) (o : Option ℕ) → cond b (Some n) (option_map (λ k. suc n + k) o) ≡ option_map (λ k. n + k) (let first : Option ℕ = Some 0 in cond b first (option_map suc o))
    moved true o = ap Some (let e : n ≡ n + 0 = omega arith in e)
    moved false None = refl
    moved false (Some k) = ap Some (let e : suc n + k ≡ n + suc k = omega arith in e)

find_listed_zero : {A B : Type 0} (test : B → Bool) (value : ℕ → B) (xs : List A) (ts : List B) → length ts ≡ length xs → ((k : ℕ) → k < length xs → slice_get ts k ≡ Some (value k)) → find (λ row. test (value row)) (numbers xs) ≡ first_row test ts
find_listed_zero test value xs ts size h = find_listed test value xs ts 0 size (λ k lt. h k lt ∙ ap (λ (m : ℕ). Some (value m)) (sym (zero-add k))) ∙ unmoved (first_row test ts)
  where
    unmoved : (o : Option ℕ) → option_map (λ k. 0 + k) o ≡ o
    unmoved None = refl
    unmoved (Some k) = ap Some (zero-add k)

-- ---- refused targets

pub path_fault_is : (ps : List Place) (ts : List (Option (List ℕ))) → length ts ≡ length ps → ((row : ℕ) → row < length ps → slice_get ts row ≡ Some (target_at ps row)) → path_fault ps ≡ option_map (λ row. BadPath (row_number row)) (first_row is_none ts)
path_fault_is ps ts size h = ap (option_map (λ row. BadPath (row_number row))) (find_listed_zero is_none (target_at ps) ps ts size h)

none_found : {A : Type 0} (test : ℕ → Bool) (xs : List A) (n k : ℕ) → find test (numbers_from n xs) ≡ None → k < length xs → test (n + k) ≡ false
none_found test [] n k e lt = absurd (omega arith)
none_found test (x ∷ xs) n k e lt =
    elim (test n) as (λ b. test n ≡ b → cond b (Some n) (find test (numbers_from (suc n) xs)) ≡ None → test (n + k) ≡ false) [
      | true ↦ λ b h. absurd cc
      | false ↦ λ b h. at_row k b h (λ j lt. none_found test xs (suc n) j h lt) lt
    ] refl e
  where
    at_row : (k : ℕ) → test n ≡ false → find test (numbers_from (suc n) xs) ≡ None → ((j : ℕ) → j < length xs → test (suc n + j) ≡ false) → k < suc (length xs) → test (n + k) ≡ false
    at_row zero b h later lt = ap test (let e : n + 0 ≡ n = omega arith in e) ∙ b
    at_row (suc j) b h later lt = ap test (let e : n + suc j ≡ suc n + j = omega arith in e) ∙ later j (omega arith)

-- where none is refused, each row has a target
pub has_target : (ps : List Place) (row : ℕ) → path_fault ps ≡ None → row < length ps → is_none (target_at ps row) ≡ false
has_target ps row accepted lt =
    ap (λ (k : ℕ). is_none (target_at ps k)) (sym (zero-add row)) ∙ none_found (λ k. is_none (target_at ps k)) ps 0 row (unmapped (find (λ k. is_none (target_at ps k)) (numbers ps)) accepted) lt
  where
    unmapped : (o : Option ℕ) → option_map (λ row. BadPath (row_number row)) o ≡ None → o ≡ None
    unmapped None e = refl
    unmapped (Some n) e = absurd cc

-- ---- chains that don't end

pub no_cycle : (ps : List Place) → ((row : ℕ) → row < length ps → ends_in (parent_at ps) (bound ps) row ≡ true) → cycle_fault ps ≡ None
no_cycle ps ends =
    ap (option_map (λ row. Cycle (row_number row)))
    (find_none (λ row. not (ends_at ps row)) ps 0 (λ k lt. ap (λ (row : ℕ). not (ends_at ps row)) (zero-add k) ∙ ap not (ends k lt)))

pub first_cycle : (ps : List Place) (row : ℕ) → IsFirstEndless (parent_at ps) (length ps) row → cycle_fault ps ≡ Some (Cycle (row_number row))
first_cycle ps row h =
    ap (option_map (λ row. Cycle (row_number row)))
    (find_at (λ row. not (ends_at ps row)) ps 0 row h.is_row (ap (λ (k : ℕ). not (ends_at ps k)) (zero-add row) ∙ ap not h.endless) (λ k lt. ap (λ (j : ℕ). not (ends_at ps j)) (zero-add k) ∙ ap not (h.first k lt)) ∙ ap Some (zero-add row))

pub is_endless : (ps : List Place) (row : ℕ) → AreRows (parent_at ps) (length ps) → IsFirstEndless (parent_at ps) (length ps) row → IsEndless ps row
is_endless ps row rows h = λ n.
    elim (cases_Bool (ends_in (parent_at ps) n row)) [
      | inl e ↦ let soon : ends_in (parent_at ps) (suc (length ps)) row ≡ true = ends_within (parent_at ps) ps rows n row h.is_row e in let no = h.endless in absurd cc
      | inr e ↦ e
    ]

-- ---- targets don't see sources

abbrev strip : Place → Place
strip p = record p { source = [] }

parent_at-strip : (ps : List Place) → parent_at (map strip ps) ≡ parent_at ps
parent_at-strip ps = same_function (parent_at (map strip ps)) (parent_at ps) (λ row. ap (option_and_then (λ (p : Place). p.parent)) (slice_get-map strip ps row) ∙ stripped (slice_get ps row))
  where
    stripped : (o : Option Place) → option_and_then (λ (p : Place). p.parent) (option_map strip o) ≡ option_and_then (λ (p : Place). p.parent) o
    stripped None = refl
    stripped (Some p) = refl

target_step-strip : (ps : List Place) → target_step (map strip ps) ≡ target_step ps
target_step-strip ps = same_function (target_step (map strip ps)) (target_step ps) (λ row. same_function (target_step (map strip ps) row) (target_step ps row) (λ above.
    ap (option_and_then (λ (p : Place). target_from p above)) (slice_get-map strip ps row) ∙ stripped (slice_get ps row) above))
  where
    stripped : (o : Option Place) (above : Option (Option (List ℕ))) → option_and_then (λ (p : Place). target_from p above) (option_map strip o) ≡ option_and_then (λ (p : Place). target_from p above) o
    stripped None above = refl
    stripped (Some p) above = refl

pub target_at-strip : (ps : List Place) (row : ℕ) → target_at (map strip ps) row ≡ target_at ps row
unfolding target_at
target_at-strip ps row =
    ap (λ (f : ℕ → Option ℕ). along f (target_step (map strip ps)) None (bound (map strip ps)) row) (parent_at-strip ps)
    ∙ ap (λ (f : ℕ → Option (Option (List ℕ)) → Option (List ℕ)). along (parent_at ps) f None (bound (map strip ps)) row) (target_step-strip ps)
    ∙ ap (λ (n : ℕ). along (parent_at ps) (target_step ps) None (suc n) row) (length-map ps strip)

strip-places_in : (ds : List Dir) (ss : List (List ℕ)) → map strip (places_in ds ss) ≡ places_in ds []
strip-places_in [] ss = refl
strip-places_in (d ∷ ds) [] = ap (λ (ps : List Place). place_of_dir d [] ∷ ps) (strip-places_in ds [])
strip-places_in (d ∷ ds) (s ∷ ss) = ap (λ (ps : List Place). place_of_dir d [] ∷ ps) (strip-places_in ds ss)

strip-with_row_own : (row : ℕ) (own : Option (Option (List ℕ))) (ps : List Place) → map strip (with_row_own row own ps) ≡ with_row_own row own (map strip ps)
strip-with_row_own row own [] = refl
strip-with_row_own zero own (p ∷ ps) = refl
strip-with_row_own (suc row) own (p ∷ ps) = ap (λ (qs : List Place). strip p ∷ qs) (strip-with_row_own row own ps)

pub target_at-sources : (row : ℕ) (own : Option (Option (List ℕ))) (ds : List Dir) (ss : List (List ℕ)) (k : ℕ) → target_at (with_row_own row own (places_in ds [])) k ≡ target_at (with_row_own row own (places_in ds ss)) k
target_at-sources row own ds ss k =
    ap (λ (ps : List Place). target_at ps k) (ap (with_row_own row own) (sym (strip-places_in ds ss)) ∙ sym (strip-with_row_own row own (places_in ds ss)))
    ∙ target_at-strip (with_row_own row own (places_in ds ss)) k

pub parent_at-sources : (ds : List Dir) (ss : List (List ℕ)) → parent_at (places_in ds []) ≡ parent_at (places_in ds ss)
parent_at-sources ds ss = ap parent_at (sym (strip-places_in ds ss)) ∙ parent_at-strip (places_in ds ss)

-- no row is changed behind the last
pub with_none_own : (own : Option (Option (List ℕ))) (ps : List Place) (n : ℕ) → length ps ≤ n → with_row_own n own ps ≡ ps
with_none_own own [] n le = refl
with_none_own own (p ∷ ps) zero le = absurd (omega arith)
with_none_own own (p ∷ ps) (suc n) le = ap (λ (qs : List Place). p ∷ qs) (with_none_own own ps n (omega arith))

-- ---- one row that is set

pub with_own_at : (dir : Name) (own : Option (List ℕ)) (ps : List Place) (row : ℕ) → row_of ps dir ≡ Some row → with_own dir own ps ≡ with_row_own row (Some own) ps
with_own_at dir own [] row e = absurd cc
with_own_at dir own (p ∷ ps) row e =
    elim (is_named dir p) as (λ b. (let first : Option ℕ = Some 0 in cond b first (option_map suc (row_of ps dir))) ≡ Some row → cond b (record p { own = Some own } ∷ ps) (p ∷ with_own dir own ps) ≡ with_row_own row (Some own) (p ∷ ps)) [
      | true ↦ λ h. let s : 0 ≡ row = cc in ap (λ (r : ℕ). with_row_own r (Some own) (p ∷ ps)) s
      | false ↦ λ h. later (row_of ps dir) row (λ r is. with_own_at dir own ps r is) h
    ] e
  where
    later : (o : Option ℕ) (row : ℕ) → ((r : ℕ) → o ≡ Some r → with_own dir own ps ≡ with_row_own r (Some own) ps) → option_map suc o ≡ Some row → p ∷ with_own dir own ps ≡ with_row_own row (Some own) (p ∷ ps)
    later None row up h = absurd cc
    later (Some r) row up h = let s : suc r ≡ row = cc in ap (λ (qs : List Place). p ∷ qs) (up r refl) ∙ ap (λ (n : ℕ). with_row_own n (Some own) (p ∷ ps)) s

pub set_own : (ds : List Dir) (ss : List (List ℕ)) (row : ℕ) (d : Dir) (own : Own) → slice_get ds row ≡ Some d → places_in (set ds row (record d { own = own })) ss ≡ with_row_own row (own_view own) (places_in ds ss)
set_own [] ss row d own e = absurd cc
set_own (x ∷ xs) [] zero d own e = let s : x ≡ d = cc in ap (λ (y : Dir). place_of_dir (record y { own = own }) [] ∷ places_in xs []) (sym s)
set_own (x ∷ xs) (s ∷ ss) zero d own e = let is : x ≡ d = cc in ap (λ (y : Dir). place_of_dir (record y { own = own }) s ∷ places_in xs ss) (sym is)
set_own (x ∷ xs) [] (suc row) d own e = ap (λ (ps : List Place). place_of_dir x [] ∷ ps) (set_own xs [] row d own e)
set_own (x ∷ xs) (s ∷ ss) (suc row) d own e = ap (λ (ps : List Place). place_of_dir x s ∷ ps) (set_own xs ss row d own e)

pub row_of-own : (row : ℕ) (own : Option (Option (List ℕ))) (ps : List Place) (dir : Name) → row_of (with_row_own row own ps) dir ≡ row_of ps dir
row_of-own row own [] dir = refl
row_of-own zero own (p ∷ ps) dir = refl
row_of-own (suc row) own (p ∷ ps) dir = ap (λ (o : Option ℕ). let first : Option ℕ = Some 0 in cond (is_named dir p) first (option_map suc o)) (row_of-own row own ps dir)
