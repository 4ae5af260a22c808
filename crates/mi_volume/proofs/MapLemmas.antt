-- What stands at a name of a map after a change at one name.
use Rattle.std.proofs.Common.{◌≡◌, ◌≢◌, ◌⊎◌, inl, inr, true, false, cond, Some, None, refl, sym, ap, ◌∙◌}
use Rattle.std.specs.FinMap.{get, insert, remove, get-insert, get-remove}
use Rattle.mi_text.specs.Maps as names
use Rattle.mi_text.specs.Maps.{Name, same_name}
use Rattle.mi_text.proofs.MapLemmas.{names_total, from_same, same_itself}

-- two names are the same or they aren't
pub name_cases : (q n : Name) → (q ≡ n) ⊎ (q ≢ n)
name_cases q n =
    elim (same_name q n) as (λ b. same_name q n ≡ b → (q ≡ n) ⊎ (q ≢ n)) [
      | true ↦ λ e. inl (from_same q n e)
      | false ↦ λ e. inr (λ is. let t : same_name q n ≡ true = ap (λ (x : Name). same_name q x) (sym is) ∙ same_itself q in cc)
    ] refl

pub same_name-other : (q n : Name) → q ≢ n → same_name q n ≡ false
same_name-other q n ne =
    elim (same_name q n) as (λ b. same_name q n ≡ b → b ≡ false) [
      | true ↦ λ e. absurd (ne (from_same q n e))
      | false ↦ λ e. refl
    ] refl

pub get-insert_same : {X : Type 0} → (m : names.Map X) (n : Name) (x : X) → get (insert m n x) n ≡ Some x
get-insert_same m n x = get-insert names_total m n x n ∙ ap (λ t. cond t (Some x) (get m n)) (same_itself n)

pub get-insert_other : {X : Type 0} → (m : names.Map X) (n : Name) (x : X) (q : Name) → q ≢ n → get (insert m n x) q ≡ get m q
get-insert_other m n x q ne = get-insert names_total m n x q ∙ ap (λ t. cond t (Some x) (get m q)) (same_name-other q n ne)

pub get-remove_same : {X : Type 0} → (m : names.Map X) (n : Name) → get (remove m n) n ≡ None
get-remove_same m n = get-remove names_total m n n ∙ ap (λ t. cond t None (get m n)) (same_itself n)

pub get-remove_other : {X : Type 0} → (m : names.Map X) (n q : Name) → q ≢ n → get (remove m n) q ≡ get m q
get-remove_other m n q ne = get-remove names_total m n q ∙ ap (λ t. cond t None (get m q)) (same_name-other q n ne)
