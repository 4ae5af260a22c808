-- Which names inside the area are held.
use Rattle.std.proofs.Common.{◌≡◌, ◌≢◌, ◌⊎◌, inl, inr, ⊎_elim, ℕ, ◌+◌, ◌≤◌, ◌<◌, true, List, length, None, refl, sym, ap, subst, ◌∙◌, arith}
use Rattle.std.specs.FinMap.{get}
use Rattle.mi_volume.specs.Maps.{Map, OthersStay}
use Rattle.mi_volume.specs.State.{State}
use Rattle.mi_volume.proofs.MapLemmas.{name_cases}
use Rattle.mi_undo.specs.Names.{marker, entry_name, gate_name, most_entries, is_inside}
use Rattle.mi_undo.specs.Notes.{Note}
use Rattle.mi_undo.specs.Keeps.{OnlyBelow, IsStanding, IsOpen, IsFree}
use Rattle.mi_undo.proofs.NameLemmas.{same_entry, gate_not_entry, marker_not_entry}

-- the name of one of so many entries or gates
abbrev pub IsOfArea : ℕ → List ℕ → Type 0
IsOfArea n q = (k : ℕ) × ((k < n) × ((q ≡ entry_name k) ⊎ (q ≡ gate_name k)))

-- where one name changes
pub only_more : (h d : Map) (x : List ℕ) (n m : ℕ) → OnlyBelow h n → n ≤ m → OthersStay x h d → (is_inside x ≡ true → x ≢ marker → IsOfArea m x) → OnlyBelow d m
only_more h d x n m only le others at q inside ne = ⊎_elim
    (λ (is : q ≡ x). inr (subst (λ (y : List ℕ). IsOfArea m y) (sym is) (at (ap is_inside (sym is) ∙ inside) (λ e. ne (is ∙ e)))))
    (λ other. ⊎_elim (λ none. inl (others q other ∙ none)) (λ (among : IsOfArea n q). inr (among.0, (omega (arith, among.1.0), among.1.1))) (only q inside ne))
    (name_cases q x)

-- where a name outside the area changes, or the marker
pub only_same : (h d : Map) (x : List ℕ) (n : ℕ) → OnlyBelow h n → OthersStay x h d → (is_inside x ≡ true → x ≢ marker → ⊥) → OnlyBelow d n
only_same h d x n only others not_here = only_more h d x n n only (omega arith) others (λ inside ne. absurd (not_here inside ne))

pub only_held : (h d : Map) (n : ℕ) → d ≡ h → OnlyBelow h n → OnlyBelow d n
only_held h d n is only = subst (λ (m : Map). OnlyBelow m n) (sym is) only

-- the next entry, or its gate
pub only_entry : (h d : Map) (n : ℕ) → OnlyBelow h n → OthersStay (entry_name n) h d → OnlyBelow d (n + 1)
only_entry h d n only others = only_more h d (entry_name n) n (n + 1) only (omega arith) others (λ inside ne. (n, (omega arith, inl refl)))

pub only_gate : (h d : Map) (n : ℕ) → OnlyBelow h (n + 1) → OthersStay (gate_name n) h d → OnlyBelow d (n + 1)
only_gate h d n only others = only_more h d (gate_name n) (n + 1) (n + 1) only (omega arith) others (λ inside ne. (n, (omega arith, inr refl)))

pub only_wider : (h : Map) (n m : ℕ) → n ≤ m → OnlyBelow h n → OnlyBelow h m
only_wider h n m le only q inside ne = ⊎_elim (λ none. inl none) (λ (among : IsOfArea n q). inr (among.0, (omega (arith, among.1.0), among.1.1))) (only q inside ne)

-- no entry is there that isn't one of so many
pub entry_absent : (h : Map) (n k : ℕ) → OnlyBelow h n → n ≤ k → k < most_entries → get h (entry_name k) ≡ None
entry_absent h n k only low below = ⊎_elim
    (λ none. none)
    (λ (among : IsOfArea n (entry_name k)). absurd (⊎_elim
    (λ (is : entry_name k ≡ entry_name among.0). let same : k ≡ among.0 = same_entry k among.0 below (omega (arith, among.1.0)) is in omega (arith, among.1.0))
    (λ (is : entry_name k ≡ gate_name among.0). gate_not_entry among.0 k (sym is))
    among.1.1))
    (only (entry_name k) refl (λ is. marker_not_entry k (sym is)))

pub open_from : (s : State) (F : Map) (parts : List (List Note)) → IsStanding s F parts → OnlyBelow s.held (length parts) → IsOpen s F parts
open_from s F parts standing only = record { standing = standing; no_entry = λ k low below. entry_absent s.held (length parts) k only low below; only = only }

pub only_free : (s : State) (d : Map) → IsFree s → OthersStay marker s.held d → OnlyBelow d 0
only_free s d free others q inside ne = inl (others q ne ∙ free.nothing_inside q inside)
