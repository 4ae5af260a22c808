-- The names of the area are different.
use Rattle.std.proofs.Common.{◌≡◌, ◌≢◌, ℕ, zero, suc, ◌+◌, ◌*◌, ◌^◌, ◌/◌, ◌%◌, ◌<◌, List, [], ◌∷◌, ◌++◌, get_or, drop, refl, ap, arith}
use Rattle.mi_undo.specs.Names.{marker, digits, entry_name, gate_name, most_entries}

pub gate_not_entry : (j k : ℕ) → gate_name j ≢ entry_name k
gate_not_entry j k e = let t : ◌≡◌ {A = ℕ} 103 101 = ap (λ (l : List ℕ). get_or l 2 0) e in absurd (omega arith)

pub marker_not_entry : (k : ℕ) → marker ≢ entry_name k
marker_not_entry k e = let t : ◌≡◌ {A = ℕ} 109 101 = ap (λ (l : List ℕ). get_or l 2 0) e in absurd (omega arith)

pub marker_not_gate : (k : ℕ) → marker ≢ gate_name k
marker_not_gate k e = let t : ◌≡◌ {A = ℕ} 109 103 = ap (λ (l : List ℕ). get_or l 2 0) e in absurd (omega arith)

-- a list with one more at its end
last_same : (xs ys : List ℕ) (x y : ℕ) → xs ++ x ∷ [] ≡ ys ++ y ∷ [] → (xs ≡ ys) × (x ≡ y)
last_same [] [] x y e = (refl, (cc))
last_same [] (b ∷ []) x y e = absurd (cc)
last_same [] (b ∷ c ∷ ys) x y e = absurd (cc)
last_same (a ∷ []) [] x y e = absurd (cc)
last_same (a ∷ c ∷ xs) [] x y e = absurd (cc)
last_same (a ∷ xs) (b ∷ ys) x y e =
    let tails : xs ++ x ∷ [] ≡ ys ++ y ∷ [] = cc in
    let rest = last_same xs ys x y tails in
    let heads : a ≡ b = cc in
    ((λ i. heads i ∷ rest.0 i), rest.1)

smaller : (n j : ℕ) → j < 10 ^ suc n → j / 10 < 10 ^ n
smaller n j below = let power : 10 ^ suc n ≡ 10 * 10 ^ n = grind arith in omega (arith, power)

digits_same : (n j k : ℕ) → j < 10 ^ n → k < 10 ^ n → digits n j ≡ digits n k → j ≡ k
unfolding digits
digits_same zero j k below_j below_k e = omega arith
digits_same (suc n) j k below_j below_k e =
    let parts = last_same (digits n (j / 10)) (digits n (k / 10)) (48 + j % 10) (48 + k % 10) e in
    let high : j / 10 ≡ k / 10 = digits_same n (j / 10) (k / 10) (smaller n j below_j) (smaller n k below_k) parts.0 in
    omega (arith, parts.1)

pub same_gate : (j k : ℕ) → j < most_entries → k < most_entries → gate_name j ≡ gate_name k → j ≡ k
unfolding most_entries
same_gate j k below_j below_k e = digits_same 8 j k below_j below_k (ap (λ (l : List ℕ). drop 4 l) e)

pub same_entry : (j k : ℕ) → j < most_entries → k < most_entries → entry_name j ≡ entry_name k → j ≡ k
unfolding most_entries
same_entry j k below_j below_k e = digits_same 8 j k below_j below_k (ap (λ (l : List ℕ). drop 4 l) e)

pub few_is : (k : ℕ) → k < most_entries → k < 100000000
unfolding most_entries
few_is k below = below

pub few_are : (k : ℕ) → k < 100000000 → k < most_entries
unfolding most_entries
few_are k below = below
