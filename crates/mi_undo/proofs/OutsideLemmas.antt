-- What is outside the area.
use Rattle.std.proofs.Common.{◌≡◌, ◌≢◌, ⊎_elim, ℕ, true, false, cond, not, List, Option, Some, None, refl, sym, ap, ◌∙◌}
use Rattle.std.specs.FinMap.{get}
use Rattle.mi_volume.specs.Maps.{Map, OthersStay}
use Rattle.mi_text.proofs.MapLemmas.{same}
use Rattle.mi_volume.proofs.MapLemmas.{name_cases, get-insert_same, get-insert_other, get-remove_same, get-remove_other}
use Rattle.mi_undo.specs.Names.{marker, entry_name, gate_name, is_inside}
use Rattle.mi_text.specs.Maps.{set_to}
use Rattle.mi_undo.specs.Stands.{outside}
use Rattle.mi_undo.proofs.StandsLemmas.{get-outside}
use Rattle.mi_undo.proofs.NoteLemmas.{not_both}

-- where one name inside the area changes
pub outside_step : (h k : Map) (x : List ℕ) → is_inside x ≡ true → OthersStay x h k → outside k ≡ outside h
outside_step h k x inside others = same (outside k) (outside h) (λ q. get-outside k q ∙ at q ∙ sym (get-outside h q))
  where
    at : (q : List ℕ) → cond (not (is_inside q)) (get k q) None ≡ cond (not (is_inside q)) (get h q) None
    at q =
        elim (is_inside q) as (λ b. is_inside q ≡ b → cond (not b) (get k q) None ≡ cond (not b) (get h q) None) [
          | true ↦ λ is. refl
          | false ↦ λ is. others q (λ e. not_both (is_inside q) (ap is_inside e ∙ inside) is)
        ] refl

pub entry_step : (h k : Map) (x : List ℕ) (n : ℕ) → x ≡ entry_name n → OthersStay x h k → outside k ≡ outside h
entry_step h k x n is others = outside_step h k x (ap is_inside is) others

pub gate_step : (h k : Map) (x : List ℕ) (n : ℕ) → x ≡ gate_name n → OthersStay x h k → outside k ≡ outside h
gate_step h k x n is others = outside_step h k x (ap is_inside is) others

pub marker_step : (h k : Map) (x : List ℕ) → x ≡ marker → OthersStay x h k → outside k ≡ outside h
marker_step h k x is others = outside_step h k x (ap is_inside is) others

pub get-set_to_same : (m : Map) (x : List ℕ) (w : Option (List ℕ)) → get (set_to m x w) x ≡ w
get-set_to_same m x None = get-remove_same m x
get-set_to_same m x (Some b) = get-insert_same m x b

pub get-set_to_other : (m : Map) (x : List ℕ) (w : Option (List ℕ)) (q : List ℕ) → q ≢ x → get (set_to m x w) q ≡ get m q
get-set_to_other m x None q ne = get-remove_other m x q ne
get-set_to_other m x (Some b) q ne = get-insert_other m x b q ne

-- where one name outside the area changes
pub outside_set_to : (h : Map) (x : List ℕ) (w : Option (List ℕ)) → is_inside x ≡ false → outside (set_to h x w) ≡ set_to (outside h) x w
outside_set_to h x w out = same (outside (set_to h x w)) (set_to (outside h) x w) (λ q. get-outside (set_to h x w) q ∙ ⊎_elim
    (λ e. ap (λ (y : List ℕ). cond (not (is_inside y)) (get (set_to h x w) y) None) e ∙ ap (λ b. cond (not b) (get (set_to h x w) x) None) out ∙ get-set_to_same h x w ∙ sym (get-set_to_same (outside h) x w) ∙ ap (λ (y : List ℕ). get (set_to (outside h) x w) y) (sym e))
    (λ ne. ap (λ (o : Option (List ℕ)). cond (not (is_inside q)) o None) (get-set_to_other h x w q ne) ∙ sym (get-outside h q) ∙ sym (get-set_to_other (outside h) x w q ne))
    (name_cases q x))
