-- What a change of a noted name keeps.
use Rattle.std.proofs.Common.{◌≡◌, ◌≢◌, inr, ⊎_elim, ℕ, zero, suc, ◌<◌, Bool, true, false, cond, List, [], ◌∷◌, length, map, get_or, Contains, Option, Some, None, refl, sym, ap, subst, ◌∙◌, arith}
use Rattle.mi_volume.specs.Maps.{Map}
use Rattle.mi_volume.specs.State.{State, GoesOn, ImagesOf}
use Rattle.mi_volume.proofs.Moments.{weaker}
use Rattle.mi_undo.specs.Names.{marker, entry_name, gate_name, is_inside}
use Rattle.mi_undo.specs.Notes.{Note, note_of, all_notes}
use Rattle.mi_undo.specs.Stands.{is_one, StandsFor}
use Rattle.mi_undo.specs.Keeps.{Robust, IsNoted, Loose, IsStanding}
use Rattle.mi_undo.specs.Steps.{OnlyChanges}
use Rattle.mi_undo.specs.Area.{place_names, Works}
use Rattle.mi_undo.specs.Answers.{Changes}
use Rattle.mi_undo.specs.declared.kept.Kept.{Kept}
use Rattle.mi_undo.proofs.FreshLemmas.{names_in}
use Rattle.mi_undo.proofs.EntryLemmas.{notes_in_outside}
use Rattle.mi_undo.proofs.OnlyLemmas.{only_same, open_from}
use Rattle.mi_undo.proofs.StepLemmas.{only_start}
use Rattle.mi_text.specs.Maps.{same_name}
use Rattle.mi_text.proofs.MapLemmas.{same_itself}
use Rattle.mi_undo.proofs.OpenLemmas.{opened_same, robust_step}
use Rattle.mi_undo.proofs.NoteLemmas.{OrName, image_stands, keeps_open}

module _ (s t : State) (F : Map) (parts : List (List Note)) (x : List ℕ) (o : IsStanding s F parts) (noted : IsNoted (all_notes parts) x) (only : OnlyChanges x s t) where
  unnoted_other : (q : List ℕ) → note_of (all_notes parts) q ≡ None → q ≢ x
  unnoted_other q none is = let both : Some noted.0 ≡ None = sym noted.1 ∙ ap (λ (y : List ℕ). note_of (all_notes parts) y) (sym is) ∙ none in cc

  inside_other : (q : List ℕ) → is_inside q ≡ true → q ≢ x
  inside_other q inside = unnoted_other q (o.outside q inside)

  robust : Robust s.held (OrName (Loose s (all_notes parts)) x) F
  robust = robust_step s.held s.held (Loose s (all_notes parts)) (OrName (Loose s (all_notes parts)) x) F (keeps_open s F parts o).robust (λ q not_loose. refl)
      (λ q. ⊎_elim (λ loose. loose) (λ is. inr (subst (λ (y : List ℕ). IsNoted (all_notes parts) y) (sym is) noted)))

  pub change_goes : GoesOn s t (StandsFor F)
  change_goes = weaker s t (ImagesOf x s) (StandsFor F) (image_stands s F (all_notes parts) x robust) only.goes

  pub change_stands : IsStanding t F parts
  change_stands = record {
    marked = ap is_one (only.others marker (inside_other marker refl)) ∙ o.marked;
    opened = opened_same s.held t.held 0 parts (λ j low high. (only.others (gate_name j) (inside_other (gate_name j) refl), only.others (entry_name j) (inside_other (entry_name j) refl))) o.opened;
    are_new = o.are_new;
    few = o.few;
    solid_marker = λ now. o.solid_marker (only.dirty marker (inside_other marker refl) now);
    solid_gates = λ k below now. o.solid_gates k below (only.dirty (gate_name k) (inside_other (gate_name k) refl) now);
    solid_entries = λ k below now. o.solid_entries k below (only.dirty (entry_name k) (inside_other (entry_name k) refl) now);
    no_gate = λ k low below. only.others (gate_name k) (inside_other (gate_name k) refl) ∙ o.no_gate k low below;
    others = λ q out none. only.others q (unnoted_other q none) ∙ o.others q out none;
    solid_others = λ q out none now. o.solid_others q out none (only.dirty q (unnoted_other q none) now);
    olds = o.olds;
    outside = o.outside;
    nothing_inside = o.nothing_inside;
  }

  pub change_outside : is_inside x ≡ false
  change_outside = at (is_inside x) refl
    where
      at : (b : Bool) → is_inside x ≡ b → b ≡ false
      at true inside = absurd (let both : Some noted.0 ≡ None = sym noted.1 ∙ o.outside x inside in cc)
      at false out = refl

contains_noted : (ns : List Note) (x : List ℕ) (k : ℕ) → k < length (map (λ n. n.name) ns) → get_or (map (λ n. n.name) ns) k x ≡ x → IsNoted ns x
contains_noted [] x k below is = absurd (omega arith)
contains_noted (n ∷ ns) x zero below is = (n.was, ap (λ b. cond b (Some n.was) (note_of ns x)) (ap (λ (y : List ℕ). same_name x y) is ∙ same_itself x))
contains_noted (n ∷ ns) x (suc k) below is =
    let later = contains_noted ns x k (omega arith) is in
    elim (same_name x n.name) as (λ b. (w : Option (List ℕ)) × (cond b (Some n.was) (note_of ns x) ≡ Some w)) [ true ↦ (n.was, refl) | false ↦ later ]

-- a noted name of an area in order
pub works_noted : (s : State) (kept : Kept) (F : Map) (x : List ℕ) (w : Works s kept F) → Contains (place_names kept.places.items) x → IsNoted (all_notes w.parts) x
works_noted s kept F x w among =
    let names : place_names kept.places.items ≡ map (λ n. n.name) (all_notes w.parts) = sym (names_in s.held kept.places.items) ∙ ap (map (λ (n : Note). n.name)) w.placed in
    contains_noted (all_notes w.parts) x among.0 (subst (λ (l : List (List ℕ)). among.0 < length l) names among.1) (subst (λ (l : List (List ℕ)). get_or l among.0 x ≡ x) names among.2)

pub works_changed : (s t : State) (kept : Kept) (F : Map) (x : List ℕ) → Works s kept F → Contains (place_names kept.places.items) x → OnlyChanges x s t → Changes s t kept F
works_changed s t kept F x w among only =
    let noted = works_noted s kept F x w among in
    let out = change_outside s t F w.parts x w.is_open.standing noted only in
    record {
      goes = change_goes s t F w.parts x w.is_open.standing noted only;
      works = record {
        parts = w.parts;
        is_open = open_from t F w.parts (change_stands s t F w.parts x w.is_open.standing noted only)
            (only_same s.held t.held x (length w.parts) w.is_open.only only.others (λ inside ne. let clash : true ≡ false = sym inside ∙ out in absurd (cc)));
        placed = notes_in_outside s.held t.held x kept.places.items out only.others ∙ w.placed;
        numbers = w.numbers;
        entries = w.entries;
        area = w.area;
        marker = w.marker;
      };
    }

pub noted_outside : (s : State) (kept : Kept) (F : Map) (x : List ℕ) → Works s kept F → Contains (place_names kept.places.items) x → is_inside x ≡ false
noted_outside s kept F x w among = change_outside s s F w.parts x w.is_open.standing (works_noted s kept F x w among) (only_start s x)
