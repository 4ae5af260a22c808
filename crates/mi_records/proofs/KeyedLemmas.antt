-- Rows of a table by their keys.
use Rattle.std.proofs.Common.{◌≡◌, ℕ, zero, suc, ◌+◌, ◌<◌, Bool, true, false, cond, List, [], ◌∷◌, map, length, get_or, Option, Some, None, refl, sym, ap, ◌∙◌, subst, add-one, arith, inl, inr}
use Rattle.std.specs.Prelude.{◌⊎◌, All, Contains, nat_eq, is_some, option_map}
use Rattle.std.specs.List.{AllByRecursion, position, position_from}
use Rattle.std.specs.Map.{lookup}
use Rattle.std.specs.Str.{bytes_eq}
use Rattle.std.specs.Cmp.Lexicographic.{pointwise}
use Rattle.std.proofs.lemmas.Bool.{cases_Bool}
use Rattle.std.proofs.lemmas.Iterator.Adapters.{position_from-zero}
use Rattle.std.proofs.lemmas.List.Elements.{recursion_from_All}
use Rattle.std.proofs.lemmas.Map.Text.{is_eq-slice_cmp}
use Rattle.mi_text.specs.Maps.{Name, same_name}
use Rattle.mi_text.proofs.MapLemmas.{from_same, same_itself}
use Rattle.mi_schema.specs.Laws.{HaveOwnKeys}
use Rattle.mi_schema.specs.RowsOf.{behind}
use Rattle.mi_schema.specs.TableRows.{Numbered, numbered_from, row_of}
use Rattle.mi_schema.proofs.CheckLemmas.{same_is}

module _ {R : Type 0} (key : R → Name) where
  -- ---- what a table has at a key

  by_key : (es : List (Name × R)) (q : Name) → AllByRecursion (λ e. e.0 ≡ key e.1) es → lookup (pointwise nat_eq q) es ≡ row_of key (behind es) q
  by_key [] q all = refl
  by_key (e ∷ es) q all =
      ap (λ b. cond b (Some e.1) (lookup (pointwise nat_eq q) es)) (same_is q e.0 ∙ ap (same_name q) all.0)
      ∙ ap (cond (same_name q (key e.1)) (Some e.1)) (by_key es q all.1)

  -- it is the row of the key
  pub row_at_key : (es : List (Name × R)) (q : Name) → All (λ e. e.0 ≡ key e.1) es → lookup (pointwise nat_eq q) es ≡ row_of key (behind es) q
  row_at_key es q all = by_key es q (recursion_from_All (λ (e : Name × R). e.0 ≡ key e.1) es all)

  number_from : (es : List (Name × R)) (q : Name) (j : ℕ) → AllByRecursion (λ e. e.0 ≡ key e.1) es
      → option_map (λ (n : Numbered R). n.number) (row_of (λ (n : Numbered R). key n.row) (numbered_from (suc j) (behind es)) q) ≡ option_map suc (position_from (bytes_eq q) j (map (λ (e : Name × R). e.0) es))
  number_from [] q j all = refl
  number_from (e ∷ es) q j all =
      let rest = row_of (λ (n : Numbered R). key n.row) (numbered_from (suc (suc j)) (behind es)) q in
      ap (λ b. option_map (λ (n : Numbered R). n.number) (cond b (Some (record { number = suc j; row = e.1 })) rest)) (ap (same_name q) (sym all.0) ∙ is_eq-slice_cmp q e.0)
      ∙ elim (bytes_eq q e.0) as (λ b. option_map (λ (n : Numbered R). n.number) (cond b (Some (record { number = suc j; row = e.1 })) rest) ≡ option_map suc (cond b (Some j) (position_from (bytes_eq q) (j + 1) (map (λ (f : Name × R). f.0) es)))) [
        | true ↦ refl
        | false ↦ number_from es q (suc j) all.1 ∙ ap (λ k. option_map suc (position_from (bytes_eq q) k (map (λ (f : Name × R). f.0) es))) (sym (add-one j))
      ]

  -- its number, by its place
  pub number_at_key : (es : List (Name × R)) (q : Name) → All (λ e. e.0 ≡ key e.1) es
      → option_map suc (position (bytes_eq q) (map (λ (e : Name × R). e.0) es)) ≡ option_map (λ (n : Numbered R). n.number) (row_of (λ (n : Numbered R). key n.row) (numbered_from 1 (behind es)) q)
  number_at_key es q all =
      ap (option_map suc) (position_from-zero (bytes_eq q) (map (λ (e : Name × R). e.0) es))
      ∙ sym (number_from es q 0 (recursion_from_All (λ (e : Name × R). e.0 ≡ key e.1) es all))

  -- with its number or without
  pub row_numbered : (rows : List R) (q : Name) (n : ℕ) → option_map (λ (n : Numbered R). n.row) (row_of (λ (n : Numbered R). key n.row) (numbered_from n rows) q) ≡ row_of key rows q
  row_numbered [] q n = refl
  row_numbered (r ∷ rows) q n = elim (same_name q (key r)) as (λ b. option_map (λ (n : Numbered R). n.row) (cond b (Some (record { number = n; row = r })) (row_of (λ (n : Numbered R). key n.row) (numbered_from (suc n) rows) q)) ≡ cond b (Some r) (row_of key rows q)) [
    | true ↦ refl
    | false ↦ row_numbered rows q (suc n)
  ]

  -- ---- a row is that of its key

  found_at : (rows : List R) (k : ℕ) (x : R) → k < length rows → get_or rows k x ≡ x → ((i : ℕ) → i < k → key (get_or rows i x) ≡ key x → ⊥) → row_of key rows (key x) ≡ Some x
  found_at [] k x lt at other = absurd (omega (arith, lt))
  found_at (r ∷ rows) zero x lt at other = ap (λ b. cond b (Some r) (row_of key rows (key x))) (ap (λ (y : R). same_name (key x) (key y)) at ∙ same_itself (key x)) ∙ ap Some at
  found_at (r ∷ rows) (suc k) x lt at other =
      ap (λ b. cond b (Some r) (row_of key rows (key x))) (differs (cases_Bool (same_name (key x) (key r))))
      ∙ found_at rows k x (omega (arith, lt)) at (λ i below same. other (suc i) (omega (arith, below)) same)
    where
      differs : (same_name (key x) (key r) ≡ true) ⊎ (same_name (key x) (key r) ≡ false) → same_name (key x) (key r) ≡ false
      differs (inl on) = absurd (other 0 (omega arith) (sym (from_same (key x) (key r) on)))
      differs (inr off) = off

  behind_at : (es : List (Name × R)) (i : ℕ) (d : Name × R) → get_or (behind es) i d.1 ≡ (get_or es i d).1
  behind_at [] i d = refl
  behind_at (e ∷ es) zero d = refl
  behind_at (e ∷ es) (suc i) d = behind_at es i d

  behind_length : (es : List (Name × R)) → length (behind es) ≡ length es
  behind_length [] = refl
  behind_length (e ∷ es) = ap suc (behind_length es)

  pub own_row : (es : List (Name × R)) (x : R) → All (λ e. e.0 ≡ key e.1) es → HaveOwnKeys es → Contains (behind es) x → row_of key (behind es) (key x) ≡ Some x
  own_row es x own apart c = found_at (behind es) c.0 x c.1 c.2 (λ i below same.
      let d : Name × R = (key x, x) in
      let long : length (behind es) ≡ length es = behind_length es in
      let last : c.0 < length es = subst (λ n. c.0 < n) long c.1 in
      let first : i < length es = omega (arith, below, last) in
      let a : (get_or es i d).0 ≡ key x = own i d first ∙ ap key (sym (behind_at es i d)) ∙ same in
      let b : (get_or es c.0 d).0 ≡ key x = own c.0 d last ∙ ap key (sym (behind_at es c.0 d) ∙ c.2) in
      apart i c.0 d below last (a ∙ sym b))

-- ---- what holds of all rows holds of the one of a key

looked_up : {R : Type 0} (P : R → Type 0) (test : Name → Bool) (es : List (Name × R)) (x : R) → AllByRecursion (λ e. P e.1) es → lookup test es ≡ Some x → P x
looked_up P test [] x all e = cc
looked_up {R} P test (f ∷ es) x all e = elim (test f.0) as (λ b. cond b (Some f.1) (lookup test es) ≡ Some x → P x) [
  | true ↦ λ is. let same : f.1 ≡ x = cc in subst P same all.0
  | false ↦ λ is. looked_up P test es x all.1 is
] e

pub of_all : {R : Type 0} (P : R → Type 0) (test : Name → Bool) (es : List (Name × R)) (x : R) → All (λ e. P e.1) es → lookup test es ≡ Some x → P x
of_all {R} P test es x all e = looked_up P test es x (recursion_from_All (λ (e : Name × R). P e.1) es all) e

-- it's there with its number or without
pub is_there : {R X : Type 0} (f : X → R) (o : Option X) (p : Option R) → option_map f o ≡ p → is_some o ≡ is_some p
is_there f None p is = ap is_some is
is_there f (Some x) p is = ap is_some is
