-- Chains of parents end at a row without one.
use Rattle.std.proofs.Common.{◌≡◌, ◌⊎◌, ℕ, zero, suc, ◌+◌, ◌<◌, not, Bool, true, false, cond, ◌||◌, List, [], ◌∷◌, length, map, get_or, Option, Some, None, refl, sym, ap, ◌∙◌, arith, inl, inr}
use Rattle.std.specs.Prelude.{option_map, option_and_then, find, All, IfSome, Contains}
use Rattle.std.proofs.lemmas.Bool.{cases_Bool}
use Rattle.std.proofs.lemmas.List.{length-map}
use Rattle.mi_text.specs.Maps.{Name, same_name}
use Rattle.mi_text.proofs.MapLemmas.{from_same}
use Rattle.mi_base.specs.declared.answers.Fault.{Fault}
use Rattle.mi_base.specs.declared.answers.Fault.TheVariants.{Cycle}
use Rattle.mi_dirs.specs.Chains.{ends_in, root_or}
use Rattle.mi_dirs.specs.Order.{parent_in}
use Rattle.mi_dirs.specs.Faults.{numbers_from}
use Rattle.mi_schema.specs.Checks.{row_with, parents_of, ends_at, endless_row, chain_fault}
use Rattle.mi_schema.specs.Laws.{EndsWithin, ChainsEnd}
use Rattle.mi_schema.specs.RowsOf.{behind}
use Rattle.mi_rows.specs.Values.{is_key_in}
use Rattle.mi_schema.proofs.ReferenceLaws.{behind_at, behind_long}

-- ---- no row is endless

-- the first isn't found, nor any later one
not_first : {A : Type 0} (test : ℕ → Bool) (xs : List A) (from : ℕ) → cond (test from) (Some from) (find test (numbers_from (suc from) xs)) ≡ None → (test from ≡ false) × (find test (numbers_from (suc from) xs) ≡ None)
not_first test xs from e = elim (cases_Bool (test from)) [
  | inl on ↦ let some : Some from ≡ None = sym (ap (λ b. cond b (Some from) (find test (numbers_from (suc from) xs))) on) ∙ e in absurd cc
  | inr off ↦ (off, sym (ap (λ b. cond b (Some from) (find test (numbers_from (suc from) xs))) off) ∙ e)
]

none_found : {A : Type 0} (test : ℕ → Bool) (xs : List A) (from : ℕ) → find test (numbers_from from xs) ≡ None → (n : ℕ) → n < length xs → test (from + n) ≡ false
none_found test [] from e n lt = absurd (omega arith)
none_found test (x ∷ xs) from e zero lt = ap test (let same : from + 0 ≡ from = omega arith in same) ∙ (not_first test xs from e).0
none_found test (x ∷ xs) from e (suc n) lt = ap test (let same : from + suc n ≡ suc from + n = omega arith in same) ∙ none_found test xs (suc from) (not_first test xs from e).1 n (omega arith)

no_number : (o : Option ℕ) (f : ℕ → Fault) → option_map f o ≡ None → o ≡ None
no_number None f e = refl
no_number (Some n) f e = cc

not_false : (b : Bool) → not b ≡ false → b ≡ true
not_false true e = refl
not_false false e = cc

pub chain_ends : {R : Type 0} (table : Name) (key : R → Name) (parent : R → Option Name) (rows : List R) → chain_fault table key parent rows ≡ None → (n : ℕ) → n < length rows → ends_at (parents_of key parent rows) n ≡ true
chain_ends table key parent rows e n lt =
    let ps : List (Option ℕ) = parents_of key parent rows in
    let none : endless_row ps ≡ None = no_number (endless_row ps) (λ row. Cycle table (row + 1)) e in
    let long : length ps ≡ length rows = length-map rows (λ r. option_and_then (row_with (map key rows)) (parent r)) in
    not_false (ends_at ps n) (ap (λ k. not (ends_at ps k)) (let same : n ≡ 0 + n = omega arith in same) ∙ none_found (λ row. not (ends_at ps row)) ps 0 none n (omega (arith, long, lt)))

-- ---- each parent is a row

parent_of_row : {R : Type 0} (f : R → Option ℕ) (rows : List R) (n : ℕ) (d : R) → n < length rows → parent_in (map f rows) n ≡ f (get_or rows n d)
parent_of_row f [] n d lt = absurd (omega arith)
parent_of_row f (r ∷ rows) zero d lt = refl
parent_of_row f (r ∷ rows) (suc n) d lt = parent_of_row f rows n d (omega arith)

-- the first row of a key
pub found_first : {R : Type 0} (key : R → Name) (rows : List R) (q : Name) → is_key_in (map key rows) q ≡ true → (j : ℕ) × (row_with (map key rows) q ≡ Some j) × (j < length rows) × ((d : R) → key (get_or rows j d) ≡ q)
found_first key [] q e = cc
found_first key (r ∷ rows) q e = elim (cases_Bool (same_name q (key r))) [
  | inl same ↦ (0, ap (λ b. cond b (Some 0) (option_map suc (row_with (map key rows) q))) same, omega arith, λ d. sym (from_same q (key r) same))
  | inr other ↦
      let rest = found_first key rows q (sym (ap (λ b. b || is_key_in (map key rows) q) other) ∙ e) in
      (suc rest.0, ap (λ b. cond b (Some 0) (option_map suc (row_with (map key rows) q))) other ∙ ap (option_map suc) rest.1, (let lt = rest.2 in omega (arith, lt)), rest.3)
]

-- a place within a list has one element, whatever stands for those without
pub get_any : {A : Type 0} (xs : List A) (n : ℕ) (d e : A) → n < length xs → get_or xs n d ≡ get_or xs n e
get_any [] n d e lt = absurd (omega arith)
get_any (x ∷ xs) zero d e lt = refl
get_any (x ∷ xs) (suc n) d e lt = get_any xs n d e (omega arith)

module _ {R : Type 0} (key : R → Name) (parent : R → Option Name) (entries : List (Name × R)) (own : All (λ e. e.0 ≡ key e.1) entries) (d : Name × R)
    (found : (n : ℕ) → n < length entries → IfSome (parent (get_or entries n d).1) (λ q. is_key_in (map key (behind entries)) q ≡ true)) where
  abbrev rows : List R
  rows = behind entries

  abbrev at : ℕ → R
  at n = (get_or entries n d).1

  abbrev up : ℕ → Option ℕ
  up = parent_in (parents_of key parent rows)

  abbrev row_of : R → Option ℕ
  row_of r = option_and_then (row_with (map key rows)) (parent r)

  -- the row at a place is among the entries
  has : (j : ℕ) → j < length entries → (q : Name) → key (at j) ≡ q → Contains entries (q, at j)
  has j lt q is = (j, lt, get_any entries j (q, at j) d lt ∙ ap (λ (k : Name). (k, at j)) (own j d lt ∙ is))

  up_is : (n : ℕ) → n < length entries → up n ≡ row_of (at n)
  up_is n lt = parent_of_row row_of rows n d.1 (let long = behind_long entries in omega (arith, long, lt)) ∙ ap row_of (behind_at entries n d lt)

  -- a row has no parent, or the first row of its parent's key is one
  step : (n : ℕ) → n < length entries → (o : Option Name) → parent (at n) ≡ o → IfSome o (λ q. is_key_in (map key rows) q ≡ true)
      → ((parent (at n) ≡ None) × (up n ≡ None)) ⊎ ((q : Name) × (j : ℕ) × (parent (at n) ≡ Some q) × (up n ≡ Some j) × (j < length entries) × (key (at j) ≡ q))
  step n lt None is known = inl (is, up_is n lt ∙ ap (option_and_then (row_with (map key rows))) is)
  step n lt (Some q) is known =
      let first = found_first key rows q known in
      let below : first.0 < length entries = let long = behind_long entries in let lt = first.2 in omega (arith, long, lt) in
      inr (q, first.0, is, up_is n lt ∙ ap (option_and_then (row_with (map key rows))) is ∙ first.1, below, ap key (sym (behind_at entries first.0 d below)) ∙ first.3 d.1)

  here : (n : ℕ) → n < length entries → ((parent (at n) ≡ None) × (up n ≡ None)) ⊎ ((q : Name) × (j : ℕ) × (parent (at n) ≡ Some q) × (up n ≡ Some j) × (j < length entries) × (key (at j) ≡ q))
  here n lt = step n lt (parent (at n)) refl (found n lt)

  ends : (steps n : ℕ) → n < length entries → ends_in up (suc steps) n ≡ true → EndsWithin parent entries steps (at n)
  ends zero n lt on = elim (here n lt) [
    | inl none ↦ none.0
    | inr some ↦ let wrong : false ≡ true = sym (ap (root_or (λ k. false)) some.3) ∙ on in absurd cc
  ]
  ends (suc steps) n lt on = elim (here n lt) [
    | inl none ↦ inl none.0
    | inr some ↦
        let more : ends_in up (suc steps) some.1 ≡ true = sym (ap (root_or (ends_in up (suc steps))) some.3) ∙ on in
        inr (some.0, at some.1, some.2, has some.1 some.4 some.0 some.5, ends steps some.1 some.4 more)
  ]

-- the chains of all rows end
pub chains_end : {R : Type 0} (table : Name) (key : R → Name) (parent : R → Option Name) (entries : List (Name × R)) → All (λ e. e.0 ≡ key e.1) entries
    → ((n : ℕ) (d : Name × R) → n < length entries → IfSome (parent (get_or entries n d).1) (λ q. is_key_in (map key (behind entries)) q ≡ true)) → chain_fault table key parent (behind entries) ≡ None → ChainsEnd parent entries
chains_end table key parent entries own found none = λ n d lt.
    let long : length (parents_of key parent (behind entries)) ≡ length entries = length-map (behind entries) (λ r. option_and_then (row_with (map key (behind entries))) (parent r)) ∙ behind_long entries in
    ends key parent entries own d (λ k. found k d) (length entries) n lt
    (ap (λ (m : ℕ). ends_in (parent_in (parents_of key parent (behind entries))) (suc m) n) (sym long) ∙ chain_ends table key parent (behind entries) none n (let same = behind_long entries in omega (arith, same, lt)))
