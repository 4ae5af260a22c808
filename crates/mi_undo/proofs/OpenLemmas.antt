-- An area in order stands for the same, whatever is at other names.
use Rattle.std.proofs.Common.{◌≡◌, ◌≢◌, ◌⊎◌, ⊎_elim, ℕ, suc, ◌+◌, ◌≤◌, ◌<◌, true, false, List, [], ◌∷◌, ◌++◌, length, Some, None, refl, sym, ap, subst, ◌∙◌, arith}
use Rattle.std.specs.FinMap.{get}
use Rattle.mi_volume.specs.Maps.{Map}
use Rattle.mi_volume.specs.State.{State}
use Rattle.mi_undo.specs.Names.{marker, entry_name, gate_name, most_entries, is_inside}
use Rattle.mi_undo.specs.Notes.{Note, note_of, all_notes, spelled}
use Rattle.mi_undo.specs.Stands.{is_one, StandsFor}
use Rattle.mi_undo.specs.Keeps.{Robust, IsNoted, Loose, Opened, IsStanding}
use Rattle.mi_undo.proofs.StandsLemmas.{stands_for}

-- the same gates and entries spell the same
pub opened_same : (h d : Map) (k : ℕ) (parts : List (List Note)) → ((j : ℕ) → k ≤ j → j < k + length parts → (get d (gate_name j) ≡ get h (gate_name j)) × (get d (entry_name j) ≡ get h (entry_name j))) → Opened h k parts → Opened d k parts
opened_same h d k [] alike opened = tt
opened_same h d k (ns ∷ parts) alike opened =
    let here = alike k (omega arith) (omega arith) in
    (ap is_one here.0 ∙ opened.0, here.1 ∙ opened.1, opened_same h d (suc k) parts (λ j low high. alike j (omega arith) (omega arith)) opened.2)

-- one entry more
pub opened_push : (d : Map) (k j : ℕ) (parts : List (List Note)) (ns : List Note) → j ≡ k + length parts → Opened d k parts → is_one (get d (gate_name j)) ≡ true → get d (entry_name j) ≡ Some (spelled ns) → Opened d k (parts ++ ns ∷ [])
opened_push d k j [] ns at opened gate entry =
    let same : j ≡ k = omega arith in
    (subst (λ (i : ℕ). is_one (get d (gate_name i)) ≡ true) same gate, subst (λ (i : ℕ). get d (entry_name i) ≡ Some (spelled ns)) same entry, tt)
opened_push d k j (p ∷ parts) ns at opened gate entry = (opened.0, opened.1, opened_push d (suc k) j parts ns (omega arith) opened.2 gate entry)

-- what is loose spares an area of so many entries: its marker, gates and entries, and the names that aren't noted
pub record Spares (loose : List ℕ → Type 0) (parts : List (List Note)) : Type 0 where
  pub at_marker : ¬ loose marker
  pub at_gates : (k : ℕ) → k < length parts → ¬ loose (gate_name k)
  pub at_entries : (k : ℕ) → k < length parts → ¬ loose (entry_name k)
  pub at_others : (q : List ℕ) → is_inside q ≡ false → note_of (all_notes parts) q ≡ None → ¬ loose q

-- then it stands for F, if the next gate is shut
pub still_stands : (s : State) (F : Map) (parts : List (List Note)) (loose : List ℕ → Type 0) → IsStanding s F parts → Spares loose parts → (d : Map) → ((q : List ℕ) → ¬ loose q → get d q ≡ get s.held q) → ((j : ℕ) → j ≡ length parts → j < most_entries → is_one (get d (gate_name j)) ≡ false) → StandsFor F d
still_stands s F parts loose o spares d agrees shut =
    stands_for d F parts
    (ap is_one (agrees marker spares.at_marker) ∙ o.marked)
    (opened_same s.held d 0 parts (λ j low high. (agrees (gate_name j) (spares.at_gates j (omega arith)), agrees (entry_name j) (spares.at_entries j (omega arith)))) o.opened)
    shut o.are_new o.few
    (λ q out none. agrees q (spares.at_others q out none) ∙ o.others q out none)
    o.olds o.nothing_inside

-- the loose names of an open area spare it
pub spares_loose : (s : State) (F : Map) (parts : List (List Note)) → IsStanding s F parts → Spares (Loose s (all_notes parts)) parts
spares_loose s F parts o = record {
  at_marker = not_loose marker refl o.solid_marker;
  at_gates = λ k below. not_loose (gate_name k) refl (o.solid_gates k (omega (arith, o.few)));
  at_entries = λ k below. not_loose (entry_name k) refl (o.solid_entries k below);
  at_others = λ q out none. λ loose. ⊎_elim (o.solid_others q out none) (λ (noted : IsNoted (all_notes parts) q). unnoted q noted none) loose;
}
  where
    unnoted : (q : List ℕ) → IsNoted (all_notes parts) q → note_of (all_notes parts) q ≡ None → ⊥
    unnoted q noted none = let both : Some noted.0 ≡ None = sym noted.1 ∙ none in cc

    not_loose : (q : List ℕ) → is_inside q ≡ true → ¬ s.dirty q → ¬ Loose s (all_notes parts) q
    not_loose q inside solid loose = ⊎_elim solid (λ (noted : IsNoted (all_notes parts) q). unnoted q noted (o.outside q inside)) loose

-- and so with one name more, which isn't one of those
pub spares_more : (loose : List ℕ → Type 0) (parts : List (List Note)) (x : List ℕ) → Spares loose parts → marker ≢ x → ((k : ℕ) → k < length parts → gate_name k ≢ x) → ((k : ℕ) → k < length parts → entry_name k ≢ x) → is_inside x ≡ true → Spares (λ q. loose q ⊎ (q ≡ x)) parts
spares_more loose parts x spares not_marker not_gate not_entry inside = record {
  at_marker = ⊎_elim spares.at_marker not_marker;
  at_gates = λ k below. ⊎_elim (spares.at_gates k below) (not_gate k below);
  at_entries = λ k below. ⊎_elim (spares.at_entries k below) (not_entry k below);
  at_others = λ q out none. ⊎_elim (spares.at_others q out none) (λ (is : q ≡ x). let clash : true ≡ false = sym inside ∙ ap is_inside (sym is) ∙ out in absurd (cc));
}

-- a call that changes only loose names keeps it robust
pub robust_step : (h k : Map) (loose less : List ℕ → Type 0) (F : Map) → Robust h loose F → ((q : List ℕ) → ¬ loose q → get k q ≡ get h q) → ((q : List ℕ) → less q → loose q) → Robust k less F
robust_step h k loose less F robust same fewer d agrees = robust d (λ q not_loose. agrees q (λ is. not_loose (fewer q is)) ∙ same q not_loose)
