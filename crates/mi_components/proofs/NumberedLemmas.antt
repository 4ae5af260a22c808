-- Rows by their keys with their numbers in the file.
use Rattle.std.proofs.Common.{◌≡◌, ℕ, suc, ◌+◌, Bool, true, false, cond, List, [], ◌∷◌, map, Option, Some, None, refl, ◌∙◌, arith}
use Rattle.std.specs.Prelude.{option_map}
use Rattle.mi_text.specs.Maps.{Name, same_name}
use Rattle.mi_schema.specs.Checks.{row_with}
use Rattle.mi_schema.specs.TableRows.{Numbered, numbered_from, row_of}

same_row : {R : Type 0} (m n : ℕ) (r x : R) → m ≡ n → r ≡ x → ◌≡◌ {A = Option (Numbered R)} (Some (record { number = m; row = r })) (Some (record { number = n; row = x }))
same_row m n r x e f = λ i. Some (record { number = e i; row = f i })

found_step : {R : Type 0} (n place : ℕ) (r x : R) (b : Bool) (at : Option ℕ) (behind : Option R) (rest : Option (Numbered R))
    → ((k : ℕ) → Some k ≡ at → Some r ≡ behind → ◌≡◌ {A = Option (Numbered R)} (Some (record { number = k + suc n; row = r })) rest)
    → Some place ≡ cond b (Some 0) (option_map suc at) → Some r ≡ cond b (Some x) behind
    → ◌≡◌ {A = Option (Numbered R)} (Some (record { number = place + n; row = r })) (cond b (Some (record { number = n; row = x })) rest)
found_step n place r x true at behind rest more here is =
    let none : place ≡ 0 = cc in
    let same : r ≡ x = cc in
    same_row (place + n) n r x (omega arith) same
found_step n place r x false (Some k) behind rest more here is =
    let next : place ≡ suc k = cc in
    same_row (place + n) (k + suc n) r r (omega arith) refl ∙ more k refl is
found_step n place r x false None behind rest more here is = cc

-- the row that a table has at a key, with its number
pub numbered-found : {R : Type 0} (key : R → Name) (rows : List R) (q : Name) (n place : ℕ) (r : R) → Some place ≡ row_with (map key rows) q → Some r ≡ row_of key rows q
    → ◌≡◌ {A = Option (Numbered R)} (Some (record { number = place + n; row = r })) (row_of (λ (x : Numbered R). key x.row) (numbered_from n rows) q)
numbered-found key [] q n place r at is = cc
numbered-found {R} key (x ∷ rows) q n place r at is =
    found_step n place r x (same_name q (key x)) (row_with (map key rows) q) (row_of key rows q) (row_of (λ (x : Numbered R). key x.row) (numbered_from (suc n) rows) q)
    (λ k. numbered-found key rows q (suc n) k r) at is

missing_step : {R : Type 0} (n : ℕ) (x : R) (b : Bool) (behind : Option R) (rest : Option (Numbered R)) → (None ≡ behind → None ≡ rest) → None ≡ cond b (Some x) behind
    → ◌≡◌ {A = Option (Numbered R)} None (cond b (Some (record { number = n; row = x })) rest)
missing_step n x true behind rest more is = cc
missing_step n x false behind rest more is = more is

-- a table that has no row at a key
pub numbered-missing : {R : Type 0} (key : R → Name) (rows : List R) (q : Name) (n : ℕ) → None ≡ row_of key rows q → None ≡ row_of (λ (x : Numbered R). key x.row) (numbered_from n rows) q
numbered-missing key [] q n is = refl
numbered-missing {R} key (x ∷ rows) q n is = missing_step n x (same_name q (key x)) (row_of key rows q) (row_of (λ (x : Numbered R). key x.row) (numbered_from (suc n) rows) q) (numbered-missing key rows q (suc n)) is
