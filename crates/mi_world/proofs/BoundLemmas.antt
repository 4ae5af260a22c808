-- Bounds of the lengths of names.
use Rattle.std.proofs.Common.{◌≡◌, ℕ, ◌<◌, ◌≤◌, Bool, true, false, cond, List, [], ◌∷◌, ◌++◌, length, Option, Some, None, refl, ap, ◌∙◌, arith}
use Rattle.std.specs.Option.{option_or}
use Rattle.std.specs.FinMap.{get, insert, find, get-insert}
use Rattle.std.specs.Map.{lookup}
use Rattle.std.specs.Ordering.{nat_cmp, ord_max}
use Rattle.std.proofs.lemmas.Bool.Decides.{nat_tests}
use Rattle.mi_text.specs.Fold.{folded}
use Rattle.std.proofs.lemmas.List.{reverse-append, length-map}
use Rattle.mi_text.specs.Maps.{Name, Map, name_cmp, same_name}
use Rattle.mi_text.proofs.MapLemmas.{names_total, from_same}
use Rattle.mi_props.specs.Props.{Value, Values, given, first_value}
use Rattle.mi_world.specs.Bounds.{AreWithin, AreFoldedWithin}

-- the greater of two numbers
pub at_least : (a b c : ℕ) → c ≡ ord_max nat_cmp a b → (a ≤ c) × (b ≤ c)
at_least a b c e = (grind (arith, nat_tests), grind (arith, nat_tests))

-- what isn't at a shorter name is at none so long
beyond : {X : Type 0} (name k : Name) (v : X) (o : Option X) (c : ℕ) → length k < c → c ≤ length name → o ≡ None → cond (same_name name k) (Some v) o ≡ None
beyond name k v o c lt long none =
    elim (same_name name k) as (λ t. same_name name k ≡ t → cond t (Some v) o ≡ None) [
      | true ↦ λ e. let same : length name ≡ length k = ap length (from_same name k e) in absurd (omega arith)
      | false ↦ λ e. none
    ] refl

pub within_insert : {X : Type 0} (m n : Map X) (k : Name) (v : X) (b c : ℕ) → n ≡ insert m k v → AreWithin b m → b ≤ c → length k < c → AreWithin c n
within_insert m n k v b c is within le lt name long =
    ap (λ (x : Map _). get x name) is ∙ get-insert names_total m k v name ∙ beyond name k v (get m name) c lt long (within name (omega arith))

pub given_more : (xs : List (Name × Value)) (k : Name) (v : Value) (b c : ℕ) → ((name : Name) → b ≤ length name → given xs name ≡ None) → b ≤ c → length k < c
    → (name : Name) → c ≤ length name → given (xs ++ (k, v) ∷ []) name ≡ None
given_more xs k v b c within le lt name long =
    ap (find name_cmp name) (reverse-append xs ((k, v) ∷ [])) ∙ beyond name k v (given xs name) c lt long (within name (omega arith))

pub none_first : (system words table : List (Name × Value)) (p : Values) (name : Name) → get p name ≡ first_value system words table name
    → given system name ≡ None → given words name ≡ None → given table name ≡ None → get p name ≡ None
none_first system words table p name is a b c =
    is ∙ ap (λ o. option_or o (option_or (given words name) (given table name))) a ∙ ap (λ o. option_or o (given table name)) b ∙ c

-- ---- tables by folded names

lookup-append : {X : Type 0} (p : Name → Bool) (xs ys : List (Name × X)) → lookup p (xs ++ ys) ≡ option_or (lookup p xs) (lookup p ys)
lookup-append p [] ys = refl
lookup-append p (x ∷ xs) ys = elim (p x.0) as (λ b. cond b (Some x.1) (lookup p (xs ++ ys)) ≡ option_or (cond b (Some x.1) (lookup p xs)) (lookup p ys)) [ true ↦ refl | false ↦ lookup-append p xs ys ]

pub folded_more : {X : Type 0} (xs : List (Name × X)) (k : Name) (v : X) (b c : ℕ) → AreFoldedWithin b xs → b ≤ c → length k < c → AreFoldedWithin c (xs ++ (k, v) ∷ [])
folded_more xs k v b c within le lt name long =
    let size : length (folded name) ≡ length name = length-map name _ in
    lookup-append (same_name (folded name)) xs ((k, v) ∷ [])
    ∙ ap (λ o. option_or o (cond (same_name (folded name) k) (Some v) None)) (within name (omega arith))
    ∙ beyond (folded name) k v None c lt (omega arith) refl
