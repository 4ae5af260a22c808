-- Begin and note.
use Rattle.std.proofs.Common.{◌≡◌, ◌≢◌, ◌⊎◌, inl, inr, ⊎_elim, ℕ, ◌+◌, ◌<◌, Bool, true, false, List, [], ◌∷◌, ◌++◌, length, Option, Some, None, refl, sym, ap, subst, ◌∙◌, arith, length-append}
use Rattle.std.specs.FinMap.{get, insert}
use Rattle.mi_volume.specs.Maps.{Map, OthersStay}
use Rattle.mi_volume.specs.State.{State, ImagesOf, OnlyDirties, NothingDirty}
use Rattle.mi_volume.proofs.MapLemmas.{name_cases, get-insert_same, get-insert_other}
use Rattle.mi_undo.specs.Names.{marker, entry_name, gate_name, most_entries, is_inside}
use Rattle.mi_undo.specs.Notes.{Note, note_of, all_notes, spelled}
use Rattle.mi_undo.specs.Stands.{is_one, StandsFor}
use Rattle.mi_undo.specs.Keeps.{Robust, IsNoted, Loose, Keeps, Opened, AreNew, IsStanding, IsFree}
use Rattle.mi_undo.proofs.StandsLemmas.{stands_for, stands_unmarked}
use Rattle.mi_undo.proofs.NameLemmas.{gate_not_entry, marker_not_entry, marker_not_gate, same_gate, same_entry}
use Rattle.mi_undo.proofs.NotesOf.{none_left, note_of-append, first_of_two, all_notes-push, AreNew-push, new_outside}
use Rattle.mi_undo.proofs.OpenLemmas.{opened_same, opened_push, Spares, still_stands, spares_loose, spares_more, robust_step}

-- the name of a call besides the loose ones
abbrev pub OrName : (List ℕ → Type 0) → List ℕ → List ℕ → Type 0
OrName loose x q = loose q ⊎ (q ≡ x)

pub not_both : (a : Bool) → a ≡ true → a ≡ false → ⊥
not_both true t f = cc
not_both false t f = cc

-- what a crash may leave of a call that changes this name
pub image_stands : (s : State) (F : Map) (ns : List Note) (x : List ℕ) → Robust s.held (OrName (Loose s ns) x) F → (d : Map) → ImagesOf x s d → StandsFor F d
image_stands s F ns x robust d image = robust d (λ q not_loose. image.agrees q (⊎_elim (λ dirty. not_loose (inl (inl dirty))) (λ is. not_loose (inr is))))

-- what such a call keeps, whatever it answers
pub keeps_after : (s t : State) (F : Map) (ns : List Note) (x : List ℕ) → Keeps s F ns → Robust s.held (OrName (Loose s ns) x) F → is_inside x ≡ true → marker ≢ x → OthersStay x s.held t.held → OnlyDirties x s t → Keeps t F ns
keeps_after s t F ns x keeps robust inside not_marker others dirty = record {
  marked = ap is_one (others marker not_marker) ∙ keeps.marked;
  robust = robust_step s.held t.held (OrName (Loose s ns) x) (Loose t ns) F robust
      (λ q not_loose. others q (λ is. not_loose (inr is)))
      (λ q loose. ⊎_elim (λ now. ⊎_elim (λ is. inr is) (λ ne. inl (inl (dirty q ne now))) (name_cases q x)) (λ noted. inl (inr noted)) loose);
  others = λ q out none. others q (λ is. not_both (is_inside q) (ap is_inside is ∙ inside) out) ∙ keeps.others q out none;
  olds = keeps.olds;
  outside = keeps.outside;
  nothing_inside = keeps.nothing_inside;
}

-- an image's gate that isn't held stays shut
pub shut_gate : (o : Option (List ℕ)) → o ≡ None → is_one o ≡ false
shut_gate o is = ap is_one is

-- an inside name is noted nowhere
unnoted : (s : State) (F : Map) (parts : List (List Note)) → IsStanding s F parts → (q : List ℕ) → is_inside q ≡ true → ¬ IsNoted (all_notes parts) q
unnoted s F parts o q inside noted = let both : Some noted.0 ≡ None = sym noted.1 ∙ o.outside q inside in cc

module _ (s : State) (F : Map) (parts : List (List Note)) (o : IsStanding s F parts) where
  gate_solid : (k : ℕ) → k < most_entries → ¬ Loose s (all_notes parts) (gate_name k)
  gate_solid k below loose = ⊎_elim (o.solid_gates k below) (unnoted s F parts o (gate_name k) refl) loose

  pub keeps_open : Keeps s F (all_notes parts)
  keeps_open = record {
    marked = o.marked;
    robust = λ d agrees. still_stands s F parts (Loose s (all_notes parts)) o (spares_loose s F parts o) d agrees
        (λ j at below. shut_gate _ (agrees (gate_name j) (gate_solid j below) ∙ o.no_gate j (omega arith) below));
    others = o.others;
    olds = o.olds;
    outside = o.outside;
    nothing_inside = o.nothing_inside;
  }

  other_entry : length parts < most_entries → (k : ℕ) → k < length parts → entry_name k ≢ entry_name (length parts)
  other_entry room k below is = let same : k ≡ length parts = same_entry k (length parts) (omega arith) room is in absurd (omega arith)

  -- whatever stands at the next entry
  pub entry_robust : length parts < most_entries → Robust s.held (OrName (Loose s (all_notes parts)) (entry_name (length parts))) F
  entry_robust room d agrees =
      still_stands s F parts (OrName (Loose s (all_notes parts)) (entry_name (length parts))) o
      (spares_more (Loose s (all_notes parts)) parts (entry_name (length parts)) (spares_loose s F parts o) (marker_not_entry (length parts)) (λ k below. gate_not_entry k (length parts)) (other_entry room) refl)
      d agrees
      (λ j at below. shut_gate _ (agrees (gate_name j) (⊎_elim (gate_solid j below) (gate_not_entry j (length parts))) ∙ o.no_gate j (omega arith) below))

  -- the area is as it was, where only this name has changed and all is on the disk
  pub open_kept : (t : State) (x : List ℕ) → OthersStay x s.held t.held → NothingDirty t → marker ≢ x → ((k : ℕ) → gate_name k ≢ x) → ((k : ℕ) → k < length parts → entry_name k ≢ x) → is_inside x ≡ true → IsStanding t F parts
  open_kept t x others clean not_marker not_gate not_entry inside = record {
    marked = ap is_one (others marker not_marker) ∙ o.marked;
    opened = opened_same s.held t.held 0 parts (λ j low high. (others (gate_name j) (not_gate j), others (entry_name j) (not_entry j (omega arith)))) o.opened;
    are_new = o.are_new;
    few = o.few;
    solid_marker = clean marker;
    solid_gates = λ k below. clean (gate_name k);
    solid_entries = λ k below. clean (entry_name k);
    no_gate = λ k low below. others (gate_name k) (not_gate k) ∙ o.no_gate k low below;
    others = λ q out none. others q (λ is. not_both (is_inside q) (ap is_inside is ∙ inside) out) ∙ o.others q out none;
    solid_others = λ q out none. clean q;
    olds = o.olds;
    outside = o.outside;
    nothing_inside = o.nothing_inside;
  }

  -- the old bytes of new names are those of F
  module _ (ns : List Note) (new : AreNew (all_notes parts) (ns ∷ [])) (held : (q : List ℕ) (w : Option (List ℕ)) → note_of ns q ≡ Some w → get s.held q ≡ w) where
    both : List Note
    both = all_notes (parts ++ ns ∷ [])

    note_of-both : (q : List ℕ) → note_of (all_notes (parts ++ ns ∷ [])) q ≡ first_of_two (note_of (all_notes parts) q) (note_of ns q)
    note_of-both q = ap (λ (l : List Note). note_of l q) (all_notes-push parts ns) ∙ note_of-append (all_notes parts) ns q

    unnoted_before : (q : List ℕ) → note_of (all_notes (parts ++ ns ∷ [])) q ≡ None → note_of (all_notes parts) q ≡ None
    unnoted_before q none = none_left (all_notes parts) ns q (ap (λ (l : List Note). note_of l q) (sym (all_notes-push parts ns)) ∙ none)

    pub new_is_outside : (q : List ℕ) (w : Option (List ℕ)) → note_of ns q ≡ Some w → is_inside q ≡ false
    new_is_outside q w is =
        elim (is_inside q) as (λ b. is_inside q ≡ b → b ≡ false) [
          | true ↦ λ inside. absurd (let none : Some w ≡ None = sym is ∙ new_outside (all_notes parts) ns new.0 q inside in cc)
          | false ↦ λ inside. refl
        ] refl

    pub both_olds : (q : List ℕ) (w : Option (List ℕ)) → note_of (all_notes (parts ++ ns ∷ [])) q ≡ Some w → get F q ≡ w
    both_olds q w is = at (note_of (all_notes parts) q) refl
      where
        at : (o' : Option (Option (List ℕ))) → note_of (all_notes parts) q ≡ o' → get F q ≡ w
        at None none =
            let here : note_of ns q ≡ Some w = sym (note_of-both q ∙ ap (λ (x : Option (Option (List ℕ))). first_of_two x (note_of ns q)) none) ∙ is in
            sym (o.others q (new_is_outside q w here) none) ∙ held q w here
        at (Some v) some =
            let before : Some v ≡ Some w = sym (note_of-both q ∙ ap (λ (x : Option (Option (List ℕ))). first_of_two x (note_of ns q)) some) ∙ is in
            o.olds q w (some ∙ before)

    pub both_outside : (q : List ℕ) → is_inside q ≡ true → note_of (all_notes (parts ++ ns ∷ [])) q ≡ None
    both_outside q inside = note_of-both q ∙ ap (λ (x : Option (Option (List ℕ))). first_of_two x (note_of ns q)) (o.outside q inside) ∙ new_outside (all_notes parts) ns new.0 q inside

    length_both : length (parts ++ ns ∷ []) ≡ length parts + 1
    length_both = length-append parts (ns ∷ [])

    -- whatever stands at the next gate, where the entry is on the disk
    pub gate_robust : length parts < most_entries → ¬ s.dirty (entry_name (length parts)) → get s.held (entry_name (length parts)) ≡ Some (spelled ns) → Robust s.held (OrName (Loose s (all_notes parts)) (gate_name (length parts))) F
    gate_robust room solid entry d agrees =
        elim (is_one (get d (gate_name (length parts)))) as (λ b. is_one (get d (gate_name (length parts))) ≡ b → StandsFor F d) [
          | true ↦ λ is_open.
              stands_for d F (parts ++ ns ∷ []) marked (opened_push d 0 (length parts) parts ns (omega arith) opened is_open (at_entry ∙ entry))
              (λ j at below. shut_gate _ (at_gate j (omega (arith, length_both)) below ∙ o.no_gate j (omega (arith, length_both)) below))
              (AreNew-push [] parts ns o.are_new new) (omega (arith, length_both))
              (λ q out none. at_other q out (unnoted_before q none) ∙ o.others q out (unnoted_before q none))
              both_olds o.nothing_inside
          | false ↦ λ shut. still_stands s F parts (OrName (Loose s (all_notes parts)) x) o spares d agrees (λ j at below. subst (λ (i : ℕ). is_one (get d (gate_name i)) ≡ false) (sym at) shut)
        ] refl
      where
        x : List ℕ
        x = gate_name (length parts)

        spares : Spares (OrName (Loose s (all_notes parts)) x) parts
        spares = spares_more (Loose s (all_notes parts)) parts x (spares_loose s F parts o) (marker_not_gate (length parts)) (λ k below is. let same : k ≡ length parts = same_gate k (length parts) (omega arith) room is in absurd (omega arith)) (λ k below is. gate_not_entry (length parts) k (sym is)) refl

        marked : is_one (get d marker) ≡ true
        marked = ap is_one (agrees marker spares.at_marker) ∙ o.marked

        opened : Opened d 0 parts
        opened = opened_same s.held d 0 parts (λ j low high. (agrees (gate_name j) (spares.at_gates j (omega arith)), agrees (entry_name j) (spares.at_entries j (omega arith)))) o.opened

        at_entry : get d (entry_name (length parts)) ≡ get s.held (entry_name (length parts))
        at_entry = agrees (entry_name (length parts)) (⊎_elim (λ loose. ⊎_elim solid (unnoted s F parts o (entry_name (length parts)) refl) loose) (λ is. gate_not_entry (length parts) (length parts) (sym is)))

        at_gate : (j : ℕ) → j ≡ length parts + 1 → j < most_entries → get d (gate_name j) ≡ get s.held (gate_name j)
        at_gate j at below = agrees (gate_name j) (⊎_elim (gate_solid j below) (λ is. let same : j ≡ length parts = same_gate j (length parts) below room is in absurd (omega arith)))

        at_other : (q : List ℕ) → is_inside q ≡ false → note_of (all_notes parts) q ≡ None → get d q ≡ get s.held q
        at_other q out none = agrees q (spares.at_others q out none)

    -- once the gate is on the disk too
    pub open_more : length parts < most_entries → get s.held (entry_name (length parts)) ≡ Some (spelled ns) → (t : State) → t.held ≡ insert s.held (gate_name (length parts)) (1 ∷ []) → NothingDirty t → IsStanding t F (parts ++ ns ∷ [])
    open_more room entry t is clean = record {
      marked = ap is_one (stays marker (marker_not_gate (length parts))) ∙ o.marked;
      opened = opened_push t.held 0 (length parts) parts ns (omega arith) opened (ap is_one (ap (λ (m : Map). get m x) is ∙ get-insert_same s.held x (1 ∷ []))) (stays (entry_name (length parts)) (λ e. gate_not_entry (length parts) (length parts) (sym e)) ∙ entry);
      are_new = AreNew-push [] parts ns o.are_new new;
      few = omega (arith, length_both);
      solid_marker = clean marker;
      solid_gates = λ k below. clean (gate_name k);
      solid_entries = λ k below. clean (entry_name k);
      no_gate = λ k low below. stays (gate_name k) (λ e. let same : k ≡ length parts = same_gate k (length parts) below room e in absurd (omega (arith, length_both))) ∙ o.no_gate k (omega (arith, length_both)) below;
      others = λ q out none. stays q (λ e. not_both (is_inside q) (ap is_inside e) out) ∙ o.others q out (unnoted_before q none);
      solid_others = λ q out none. clean q;
      olds = both_olds;
      outside = both_outside;
      nothing_inside = o.nothing_inside;
    }
      where
        x : List ℕ
        x = gate_name (length parts)

        stays : (q : List ℕ) → q ≢ x → get t.held q ≡ get s.held q
        stays q ne = ap (λ (m : Map). get m q) is ∙ get-insert_other s.held x (1 ∷ []) q ne

        opened : Opened t.held 0 parts
        opened = opened_same s.held t.held 0 parts (λ j low high. (stays (gate_name j) (λ e. let same : j ≡ length parts = same_gate j (length parts) (omega arith) room e in absurd (omega arith)), stays (entry_name j) (λ e. gate_not_entry (length parts) j (sym e)))) o.opened

-- whatever stands at the marker of a free volume
pub begin_robust : (s : State) → IsFree s → Robust s.held (OrName (Loose s []) marker) s.held
begin_robust s free d agrees =
    elim (is_one (get d marker)) as (λ b. is_one (get d marker) ≡ b → StandsFor s.held d) [
      | true ↦ λ marked. stands_for d s.held [] marked tt (λ j at below. shut_gate _ (other (gate_name j) (λ e. marker_not_gate j (sym e)) ∙ free.nothing_inside (gate_name j) refl)) tt (omega arith) (λ q out none. outer q out) (λ q w is. absurd (cc)) free.nothing_inside
      | false ↦ λ shut. stands_unmarked d s.held shut outer free.nothing_inside
    ] refl
  where
    other : (q : List ℕ) → q ≢ marker → get d q ≡ get s.held q
    other q ne = agrees q (⊎_elim (λ loose. ⊎_elim (free.clean q) (λ (noted : IsNoted [] q). let none : Some noted.0 ≡ None = sym noted.1 in cc) loose) ne)

    outer : (q : List ℕ) → is_inside q ≡ false → get d q ≡ get s.held q
    outer q out = other q (λ e. not_both (is_inside q) (ap is_inside e) out)

pub begin_stands : (s t : State) → IsFree s → OthersStay marker s.held t.held → OnlyDirties marker s t → Robust t.held t.dirty s.held
begin_stands s t free others dirty =
    robust_step s.held t.held (OrName (Loose s []) marker) t.dirty s.held (begin_robust s free)
    (λ q not_loose. others q (λ is. not_loose (inr is)))
    (λ q now. ⊎_elim (λ is. inr is) (λ ne. inl (inl (dirty q ne now))) (name_cases q marker))

pub begin_open : (s t : State) → IsFree s → t.held ≡ insert s.held marker (1 ∷ []) → NothingDirty t → IsStanding t s.held []
begin_open s t free is clean = record {
  marked = ap is_one (ap (λ (m : Map). get m marker) is ∙ get-insert_same s.held marker (1 ∷ []));
  opened = tt;
  are_new = tt;
  few = omega arith;
  solid_marker = clean marker;
  solid_gates = λ k below. clean (gate_name k);
  solid_entries = λ k below. clean (entry_name k);
  no_gate = λ k low below. stays (gate_name k) (λ e. marker_not_gate k (sym e)) ∙ free.nothing_inside (gate_name k) refl;
  others = λ q out none. stays q (λ e. not_both (is_inside q) (ap is_inside e) out);
  solid_others = λ q out none. clean q;
  olds = λ q w is. absurd (cc);
  outside = λ q inside. refl;
  nothing_inside = free.nothing_inside;
}
  where
    stays : (q : List ℕ) → q ≢ marker → get t.held q ≡ get s.held q
    stays q ne = ap (λ (m : Map). get m q) is ∙ get-insert_other s.held marker (1 ∷ []) q ne
