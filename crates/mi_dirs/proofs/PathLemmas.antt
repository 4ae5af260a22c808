-- Ways up the parents, and rows that are placed.
use Rattle.std.proofs.Common.{◌≡◌, ℕ, zero, suc, ◌+◌, ◌-◌, ◌≤◌, ◌<◌, eqb, Bool, true, false, List, [], ◌∷◌, ◌++◌, length, take, get_or, Option, Some, None, refl, sym, ap, subst, ◌∙◌, arith, length-append, add-zero, inl, inr, ◌⊎◌}
use Rattle.std.specs.Prelude.{slice_get, Contains, MatchOption, IfSome}
use Rattle.std.specs.Option.{option_flatten}
use Rattle.std.proofs.Math.ListN.{set, length-set}
use Rattle.std.proofs.lemmas.Bool.{cases_Bool, eqb-true}
use Rattle.std.proofs.lemmas.Bool.Decides.{nat_tests}
use Rattle.std.proofs.lemmas.List.{take-append-le, get_or-append_right, get_or_append_left, take_all}
use Rattle.std.proofs.lemmas.List.Elements.{Contains-get_or, Contains-append_left, Contains-push, Contains-push_cases}
use Rattle.std.proofs.lemmas.Option.{slice_get-get_or}
use Rattle.mi_dirs.specs.declared.placing.Placing.{Placing}
use Rattle.mi_dirs.specs.Chains.{root_or, ends_in}
use Rattle.mi_dirs.specs.Order.{parent_in, AreRows, IsOrdered}
use Rattle.mi_dirs.specs.Paths.{LeadsTo, AllBelow, IsPlaced, IsWayUp, ArePlaced, Places}
use Rattle.mi_dirs.proofs.ChainLemmas.{ends_within, ends_later}
use Rattle.mi_dirs.proofs.FilledLemmas.{slice_get-set_same}

-- ---- one more row of a way

pub leads-push : (parent : ℕ → Option ℕ) (path : List ℕ) (first : Option ℕ) (row : ℕ) → LeadsTo parent path first (Some row) → LeadsTo parent (path ++ row ∷ []) first (parent row)
leads-push parent [] first row h = (h, refl)
leads-push parent (x ∷ xs) first row h = (h.0, leads-push parent xs (parent x) row h.1)

pub leads-pop : (parent : ℕ → Option ℕ) (path : List ℕ) (first last : Option ℕ) (row : ℕ) → LeadsTo parent (path ++ row ∷ []) first last → LeadsTo parent path first (Some row) × (parent row ≡ last)
leads-pop parent [] first last row h = (h.0, h.1)
leads-pop parent (x ∷ xs) first last row h = let more = leads-pop parent xs (parent x) last row h.1 in ((h.0, more.0), more.1)

pub below-push : (n : ℕ) (path : List ℕ) (row : ℕ) → AllBelow n path → row < n → AllBelow n (path ++ row ∷ [])
below-push n [] row h lt = (lt, tt)
below-push n (x ∷ xs) row h lt = (h.0, below-push n xs row h.1 lt)

pub below-pop : (n : ℕ) (path : List ℕ) (row : ℕ) → AllBelow n (path ++ row ∷ []) → AllBelow n path × (row < n)
below-pop n [] row h = (tt, h.0)
below-pop n (x ∷ xs) row h = let more = below-pop n xs row h.1 in ((h.0, more.0), more.1)

-- a chain that leads on ends later by the length of the way
pub ends_behind : (parent : ℕ → Option ℕ) (path : List ℕ) (first last : Option ℕ) (m : ℕ) → LeadsTo parent path first last → root_or (ends_in parent (m + length path)) first ≡ root_or (ends_in parent m) last
ends_behind parent [] first last m h = rw add-zero (ap (root_or (ends_in parent m)) h)
ends_behind parent (x ∷ xs) first last m h =
    let next : m + suc (length xs) ≡ suc (m + length xs) = omega arith in
    ap (root_or (ends_in parent (m + suc (length xs)))) h.0
    ∙ ap (λ (n : ℕ). ends_in parent n x) next
    ∙ ends_behind parent xs (parent x) last m h.1

-- a way with more rows than there are comes to no end
pub too_long : (parent : ℕ → Option ℕ) (path : List ℕ) (row next n : ℕ) → LeadsTo parent path (Some row) (Some next) → length path ≡ n → ends_in parent n row ≡ false
too_long parent path row next n h e =
    let long : 0 + length path ≡ n = omega arith in
    ap (λ (m : ℕ). ends_in parent m row) (sym long) ∙ ends_behind parent path (Some row) (Some next) 0 h

-- a way that comes back to a row comes back for ever
comes_back : (parent : ℕ → Option ℕ) (path : List ℕ) (first : Option ℕ) (row k : ℕ) → LeadsTo parent path first (Some row) → k < length path → get_or path k row ≡ row → (more : ℕ) × ((m : ℕ) → ends_in parent (m + suc more) row ≡ ends_in parent m row)
comes_back parent [] first row k h lt e = absurd (omega arith)
comes_back parent (x ∷ xs) first row zero h lt e = (
  length xs,
  λ m.
      let next : m + suc (length xs) ≡ suc (m + length xs) = omega arith in
      ap (λ (n : ℕ). ends_in parent n row) next ∙ ap (λ (r : ℕ). ends_in parent (suc (m + length xs)) r) (sym e) ∙ ends_behind parent xs (parent x) (Some row) m h.1,
)
comes_back parent (x ∷ xs) first row (suc k) h lt e = comes_back parent xs (parent x) row k h.1 (omega arith) e

-- a row whose chain ends isn't met again on the way up
pub no_return : (parent : ℕ → Option ℕ) (path : List ℕ) (first : Option ℕ) (row n : ℕ) → LeadsTo parent path first (Some row) → Contains path row → ends_in parent n row ≡ true → ⊥
no_return parent path first row n h c ends =
    let back = comes_back parent path first row c.0 h c.1 c.2 in
    let late = past back.0 back.1 n in
    let low : late.0 - n + n ≡ late.0 = let le = late.1 in omega arith in
    let on : ends_in parent late.0 row ≡ true = subst (λ (m : ℕ). ends_in parent m row ≡ true) low (ends_later parent (late.0 - n) n row ends) in
    let no : true ≡ false = sym on ∙ late.2 in
    absurd cc
  where
    past : (more : ℕ) → ((m : ℕ) → ends_in parent (m + suc more) row ≡ ends_in parent m row) → (n : ℕ) → (m : ℕ) × (n ≤ m) × (ends_in parent m row ≡ false)
    past more again zero = (0, omega arith, refl)
    past more again (suc n) = let before = past more again n in (before.0 + suc more, (let le = before.1 in omega arith), again before.0 ∙ before.2)

-- ---- rows that are placed

pub apart : (k n : ℕ) → k < suc n → eqb k n ≡ false → k < n
apart k n lt e = grind (arith, nat_tests)

pub ordered-push : (parent : ℕ → Option ℕ) (n : ℕ) (order : List ℕ) (row : ℕ) → IsOrdered parent n order → row < n → (Contains order row → ⊥) → ((p : ℕ) → parent row ≡ Some p → Contains order p) → IsOrdered parent n (order ++ row ∷ [])
ordered-push parent n order row h lt new up = record {
  within = λ k lk. elim (cases_Bool (eqb k (length order))) [
    | inl e ↦ subst (λ (x : ℕ). x < n) (sym (last_is k (eqb-true k (length order) e))) lt
    | inr e ↦ subst (λ (x : ℕ). x < n) (sym (front_is k (below k lk e))) (h.within k (below k lk e))
  ];
  once = λ j k lj lk same. elim (cases_Bool (eqb j (length order))) [
    | inl ej ↦ elim (cases_Bool (eqb k (length order))) [
      | inl ek ↦ eqb-true j (length order) ej ∙ sym (eqb-true k (length order) ek)
      | inr ek ↦ absurd (new (stands k (below k lk ek) (sym (front_is k (below k lk ek)) ∙ sym same ∙ last_is j (eqb-true j (length order) ej))))
    ]
    | inr ej ↦ elim (cases_Bool (eqb k (length order))) [
      | inl ek ↦ absurd (new (stands j (below j lj ej) (sym (front_is j (below j lj ej)) ∙ same ∙ last_is k (eqb-true k (length order) ek))))
      | inr ek ↦ h.once j k (below j lj ej) (below k lk ek) (sym (front_is j (below j lj ej)) ∙ same ∙ front_is k (below k lk ek))
    ]
  ];
  after = λ k p lk is. elim (cases_Bool (eqb k (length order))) [
    | inl e ↦
        let all : take k (order ++ row ∷ []) ≡ order = take-append-le k order (row ∷ []) (let h = eqb-true k (length order) e in omega arith) ∙ take_all k order (let h = eqb-true k (length order) e in omega arith) in
        subst (λ (xs : List ℕ). Contains xs p) (sym all) (up p (ap parent (sym (last_is k (eqb-true k (length order) e))) ∙ is))
    | inr e ↦
        subst (λ (xs : List ℕ). Contains xs p) (sym (take-append-le k order (row ∷ []) (let l = below k lk e in omega arith)))
        (h.after k p (below k lk e) (ap parent (sym (front_is k (below k lk e))) ∙ is))
  ];
}
  where
    last_is : (k : ℕ) → k ≡ length order → get_or (order ++ row ∷ []) k 0 ≡ row
    last_is k e = let zero_on : k - length order ≡ 0 = omega arith in get_or-append_right order (row ∷ []) (length order) k 0 refl (omega arith) ∙ ap (λ (i : ℕ). get_or (row ∷ []) i 0) zero_on

    front_is : (k : ℕ) → k < length order → get_or (order ++ row ∷ []) k 0 ≡ get_or order k 0
    front_is k lk = get_or_append_left order (row ∷ []) 0 k lk

    stands : (k : ℕ) → k < length order → get_or order k 0 ≡ row → Contains order row
    stands k lk e = subst (Contains order) e (Contains-get_or order k 0 lk)

    below : (k : ℕ) → k < length (order ++ row ∷ []) → eqb k (length order) ≡ false → k < length order
    below k lk e = apart k (length order) (let l = length-append order (row ∷ []) in omega arith) e

-- what is written at a place is there, and all else is as before
slice_get-set : {A : Type 0} (xs : List A) (i k : ℕ) (v w : A) → slice_get (set xs i v) k ≡ Some w → (k ≡ i) ⊎ (slice_get xs k ≡ Some w)
slice_get-set [] i k v w e = inr e
slice_get-set (x ∷ xs) zero zero v w e = inl refl
slice_get-set (x ∷ xs) zero (suc k) v w e = inr e
slice_get-set (x ∷ xs) (suc i) zero v w e = inr e
slice_get-set (x ∷ xs) (suc i) (suc k) v w e = elim (slice_get-set xs i k v w e) [ inl s ↦ inl (ap suc s) | inr s ↦ inr s ]

slice_get-set_true : (xs : List Bool) (i k : ℕ) → slice_get xs k ≡ Some true → slice_get (set xs i true) k ≡ Some true
slice_get-set_true [] i k e = e
slice_get-set_true (x ∷ xs) zero zero e = refl
slice_get-set_true (x ∷ xs) zero (suc k) e = e
slice_get-set_true (x ∷ xs) (suc i) zero e = e
slice_get-set_true (x ∷ xs) (suc i) (suc k) e = slice_get-set_true xs i k e

-- a row whose parent is placed, or that is a root row, may be placed
parent_placed : (parent : ℕ → Option ℕ) (order : List ℕ) (row : ℕ) (last : Option ℕ) → parent row ≡ last → MatchOption last (Unit {0}) (Contains order) → (p : ℕ) → parent row ≡ Some p → Contains order p
parent_placed parent order row None is h p e = absurd cc
parent_placed parent order row (Some q) is h p e = let s : q ≡ p = cc in subst (Contains order) s h

ends_by_last : {A : Type 0} (parent : ℕ → Option ℕ) (xs : List A) (order : List ℕ) (row : ℕ) (last : Option ℕ) → AreRows parent (length xs) → row < length xs → parent row ≡ last → MatchOption last (Unit {0}) (Contains order)
    → ((r : ℕ) → Contains order r → ends_in parent (suc (length xs)) r ≡ true) → ends_in parent (suc (length xs)) row ≡ true
ends_by_last parent xs order row None rows lt is h ending = ap (root_or (ends_in parent (length xs))) is
ends_by_last parent xs order row (Some p) rows lt is h ending =
    ends_within parent xs rows (suc (suc (length xs))) row lt (ap (root_or (ends_in parent (suc (length xs)))) is ∙ ending p h)

pub place_one : {A : Type 0} (parent : ℕ → Option ℕ) (xs : List A) (before after : Placing) (row : ℕ) (last : Option ℕ) → AreRows parent (length xs) → ArePlaced parent (length xs) before → row < length xs
    → (Contains before.order.items row → ⊥) → parent row ≡ last → MatchOption last (Unit {0}) (Contains before.order.items) → after.order.items ≡ before.order.items ++ row ∷ [] → after.placed.items ≡ set before.placed.items row true
    → ArePlaced parent (length xs) after
place_one parent xs before after row last rows h lt new is placed order flags = record {
  size = ap length flags ∙ length-set before.placed.items row true ∙ h.size;
  ordered = subst (λ (o : List ℕ). IsOrdered parent (length xs) o) (sym order) (ordered-push parent (length xs) before.order.items row h.ordered lt new (parent_placed parent before.order.items row last is placed));
  known = λ r e. subst (λ (o : List ℕ). Contains o r) (sym order)
      (elim (slice_get-set before.placed.items row r true true (ap (λ (b : List Bool). slice_get b r) (sym flags) ∙ e)) [
        | inl s ↦ subst (λ (q : ℕ). Contains (before.order.items ++ row ∷ []) q) (sym s) (Contains-push before.order.items row)
        | inr s ↦ Contains-append_left before.order.items (row ∷ []) r (h.known r s)
      ]);
  marked = λ r c.
      ap (λ (b : List Bool). slice_get b r) flags
      ∙ elim (Contains-push_cases before.order.items row r (subst (λ (o : List ℕ). Contains o r) order c)) [
        | inl old ↦ slice_get-set_true before.placed.items row r (h.marked r old)
        | inr this ↦ ap (slice_get (set before.placed.items row true)) (sym this) ∙ slice_get-set_same before.placed.items row true (omega (arith, h.size))
      ];
  ending = λ r c. elim (Contains-push_cases before.order.items row r (subst (λ (o : List ℕ). Contains o r) order c)) [
    | inl old ↦ h.ending r old
    | inr new ↦ subst (λ (q : ℕ). ends_in parent (suc (length xs)) q ≡ true) new (ends_by_last parent xs before.order.items row last rows lt is placed h.ending)
  ];
}

-- how far the rows of a path are placed: those left lead to a row that is placed
pub record Goes (parent : ℕ → Option ℕ) (n : ℕ) (before : Placing) (path : List ℕ) (now : Placing) (left : List ℕ) : Type 0 where
  pub first : Option ℕ
  pub last : Option ℕ
  pub leads : LeadsTo parent left first last
  pub below : AllBelow n left
  pub last_placed : MatchOption last (Unit {0}) (Contains now.order.items)
  pub fresh : (row : ℕ) → Contains left row → Contains now.order.items row → ⊥
  pub placed : ArePlaced parent n now
  pub kept : (row : ℕ) → Contains before.order.items row → Contains now.order.items row
  pub done : (row : ℕ) → Contains path row → Contains left row ⊎ Contains now.order.items row

pub goes_on : {A : Type 0} (parent : ℕ → Option ℕ) (xs : List A) (before : Placing) (path : List ℕ) (now after : Placing) (left rest : List ℕ) (row : ℕ) → AreRows parent (length xs)
    → Goes parent (length xs) before path now left → left ≡ rest ++ row ∷ [] → after.order.items ≡ now.order.items ++ row ∷ [] → after.placed.items ≡ set now.placed.items row true
    → Goes parent (length xs) before path after rest
goes_on parent xs before path now after left rest row rows h is order flags =
    let popped = leads-pop parent rest h.first h.last row (subst (λ (l : List ℕ). LeadsTo parent l h.first h.last) is h.leads) in
    let low = below-pop (length xs) rest row (subst (AllBelow (length xs)) is h.below) in
    let more : (r : ℕ) → Contains now.order.items r → Contains after.order.items r = λ r c. subst (λ (o : List ℕ). Contains o r) (sym order) (Contains-append_left now.order.items (row ∷ []) r c) in
    let here : Contains after.order.items row = subst (λ (o : List ℕ). Contains o row) (sym order) (Contains-push now.order.items row) in
    let new : Contains now.order.items row → ⊥ = λ c. h.fresh row (subst (λ (l : List ℕ). Contains l row) (sym is) (Contains-push rest row)) c in
    let placed_after = place_one parent xs now after row h.last rows h.placed low.1 new popped.1 h.last_placed order flags in
    record {
      first = h.first;
      last = Some row;
      leads = popped.0;
      below = low.0;
      last_placed = here;
      fresh = λ r left c. elim (Contains-push_cases now.order.items row r (subst (λ (o : List ℕ). Contains o r) order c)) [
        | inl old ↦ h.fresh r (subst (λ (l : List ℕ). Contains l r) (sym is) (Contains-append_left rest (row ∷ []) r left)) old
        | inr this ↦ no_return parent rest h.first row (suc (length xs)) popped.0 (subst (Contains rest) (sym this) left) (placed_after.ending row here)
      ];
      placed = placed_after;
      kept = λ r c. more r (h.kept r c);
      done = λ r c. elim (h.done r c) [
        | inl still ↦ elim (Contains-push_cases rest row r (subst (λ (l : List ℕ). Contains l r) is still)) [
          | inl left ↦ inl left
          | inr this ↦ inr (subst (λ (q : ℕ). Contains after.order.items q) this here)
        ]
        | inr placed ↦ inr (more r placed)
      ];
    }

pub last_is_placed : (placing : Placing) (parent : ℕ → Option ℕ) (n : ℕ) (last : Option ℕ) → ArePlaced parent n placing → IsPlaced placing.placed.items last → MatchOption last (Unit {0}) (Contains placing.order.items)
last_is_placed placing parent n None h p = tt
last_is_placed placing parent n (Some row) h p = h.known row p

-- the row that a way begins with is placed behind it
pub first_is_placed : (parent : ℕ → Option ℕ) (n row : ℕ) (before after : Placing) (path : List ℕ) → ArePlaced parent n before → IsWayUp parent n before.placed.items (Some row) path → Places before after path → Contains after.order.items row
first_is_placed parent n row before after [] h way places = places.kept row (row_of_last way.last way.leads way.placed_last)
  where
    row_of_last : (last : Option ℕ) → Some row ≡ last → IsPlaced before.placed.items last → Contains before.order.items row
    row_of_last None e p = absurd cc
    row_of_last (Some r) e p = let s : r ≡ row = cc in subst (Contains before.order.items) s (h.known r p)
first_is_placed parent n row before after (x ∷ xs) h way places = let s : row ≡ x = cc (way.leads.0) in subst (Contains after.order.items) (sym s) (places.placed x (Contains-get_or (x ∷ xs) 0 x (omega arith)))

pub if_below : (o : Option ℕ) (n : ℕ) → ((p : ℕ) → o ≡ Some p → p < n) → IfSome o (λ r. r < n)
if_below None n h = tt
if_below (Some p) n h = h p refl

-- the parent that stands in the list
pub parent_is : (parents : List (Option ℕ)) (row : ℕ) → row < length parents → parent_in parents row ≡ get_or parents row None
parent_is parents row lt = ap option_flatten (slice_get-get_or parents row None lt)

pub nothing_left : (xs : List ℕ) (n : ℕ) → n ≡ length xs → n ≡ 0 → xs ≡ []
nothing_left [] n e h = refl
nothing_left (x ∷ xs) n e h = absurd (omega arith)

pub none_contained : (row : ℕ) → Contains [] row → ⊥
none_contained row c = omega (arith, c.1)

pub all_placed : (parent : ℕ → Option ℕ) (n : ℕ) (before : Placing) (path : List ℕ) (now : Placing) (left : List ℕ) → Goes parent n before path now left → left ≡ [] → Places before now path
all_placed parent n before path now left h is = record {
  kept = h.kept;
  placed = λ r c. elim (h.done r c) [
    | inl still ↦ absurd (none_contained r (subst (λ (l : List ℕ). Contains l r) is still))
    | inr placed ↦ placed
  ];
}

pub begins_going : (parent : ℕ → Option ℕ) (n : ℕ) (before : Placing) (path : List ℕ) → ArePlaced parent n before → (first : Option ℕ) × IsWayUp parent n before.placed.items first path → Goes parent n before path before path
begins_going parent n before path h way = record {
  first = way.0;
  last = way.1.last;
  leads = way.1.leads;
  below = way.1.below;
  last_placed = last_is_placed before parent n way.1.last h way.1.placed_last;
  fresh = λ r c placed. let no : Some false ≡ Some true = sym (way.1.unplaced r c) ∙ h.marked r placed in absurd cc;
  placed = h;
  kept = λ r c. c;
  done = λ r c. inl c;
}
