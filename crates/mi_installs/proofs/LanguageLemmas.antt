-- Numbers in order, each once, rise, and are no more than there were.
use Rattle.std.proofs.Common.{◌≡◌, ℕ, suc, ◌+◌, ◌≤◌, Bool, true, false, cond, T, List, [], ◌∷◌, map, length, Some, refl, ap, ◌∙◌, arith}
use Rattle.std.specs.Prelude.{nat_lt, ◌&&◌}
use Rattle.std.specs.Ordering.{nat_cmp, is_lt}
use Rattle.std.proofs.lemmas.Cmp.{nat_cmp_total}
use Rattle.std.specs.FinMap.{FinMap, entries, entries_sorted, len-entries, len-insert, len-empty, from_entries, is_sorted, contains_key, len}
use Rattle.std.specs.FinMap.Entries.{below_all}
use Rattle.mi_base.specs.Limits.{rises, is_above, is_chain}
use Rattle.mi_model.specs.FileVersions.{rising}

abbrev Set : Type 0
Set = FinMap nat_cmp (Unit {0})

abbrev as_entry : ℕ → ℕ × Unit {0}
as_entry n = (n, tt {0})

abbrev of_numbers : List ℕ → Set
of_numbers ns = from_entries (map as_entry ns)

-- ---- they rise

less : (a b : ℕ) → is_lt (nat_cmp a b) ≡ true → nat_lt a b ≡ true
less a b e = grind arith

both : (a b : Bool) → T (a && b) → (a ≡ true) × T b
both true b t = (refl, t)
both false b t = absurd t

chained : (e : ℕ × Unit {0}) (es : List (ℕ × Unit {0})) → T (is_sorted nat_cmp (e ∷ es)) → is_chain (is_above nat_lt) (Some e.0) (map (λ (e : ℕ × Unit {0}). e.0) es) ≡ true
chained e [] t = refl
chained e (f ∷ es) t =
    let parts = both (below_all nat_cmp e.0 (f ∷ es)) (is_sorted nat_cmp (f ∷ es)) t in
    let here = both_true (is_lt (nat_cmp e.0 f.0)) (below_all nat_cmp e.0 es) parts.0 in
    ap (λ b. b && is_chain (is_above nat_lt) (Some f.0) (map (λ (e : ℕ × Unit {0}). e.0) es)) (less e.0 f.0 here) ∙ chained f es parts.1
  where
    both_true : (a b : Bool) → (a && b) ≡ true → a ≡ true
    both_true true b e = refl
    both_true false b e = cc

all_rise : (es : List (ℕ × Unit {0})) → T (is_sorted nat_cmp es) → rises nat_lt (map (λ (e : ℕ × Unit {0}). e.0) es) ≡ true
all_rise [] t = refl
all_rise (e ∷ es) t = chained e es t

pub rising-rises : (ns : List ℕ) → rises nat_lt (rising ns) ≡ true
rising-rises ns = all_rise (entries (of_numbers ns)) (entries_sorted (of_numbers ns))

-- ---- no more than there were

at_most : (b : Bool) (a n : ℕ) → a ≤ n → cond b a (a + 1) ≤ n + 1
at_most true a n le = omega arith
at_most false a n le = omega arith

few : (ns : List ℕ) → len (of_numbers ns) ≤ length ns
few [] = omega (arith, len-empty nat_cmp (Unit {0}))
few (n ∷ ns) =
    let more = at_most (contains_key (of_numbers ns) n) (len (of_numbers ns)) (length ns) (few ns) in
    let is = len-insert nat_cmp_total (of_numbers ns) n tt in
    omega arith

length-first : (es : List (ℕ × Unit {0})) → length (map (λ (e : ℕ × Unit {0}). e.0) es) ≡ length es
length-first [] = refl
length-first (e ∷ es) = ap suc (length-first es)

pub rising-few : (ns : List ℕ) → length (rising ns) ≤ length ns
rising-few ns = let a = length-first (entries (of_numbers ns)) in let b = len-entries (of_numbers ns) in let c = few ns in omega arith
