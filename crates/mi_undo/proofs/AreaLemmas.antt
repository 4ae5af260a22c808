-- What an open area keeps in memory and on the volume.
use Rattle.std.proofs.Common.{◌≡◌, ◌⊎◌, inl, inr, ⊎_elim, ℕ, zero, suc, ◌+◌, ◌<◌, List, [], ◌∷◌, ◌++◌, length, Result, Ok, Vec, IsErr, refl, sym, ap, subst, ◌∙◌, arith, length-append}
use Rattle.std.specs.declared.alloc.Global.{Global}
use Rattle.mi_volume.specs.Maps.{Map}
use Rattle.mi_volume.specs.State.{State}
use Rattle.mi_volume.proofs.Moments.{started}
use Rattle.mi_undo.specs.Names.{entry_name, gate_name, most_entries, area_names}
use Rattle.mi_undo.specs.Notes.{Note, all_notes}
use Rattle.mi_undo.specs.Stands.{StandsFor}
use Rattle.mi_undo.specs.Keeps.{IsOpen, OnlyBelow}
use Rattle.mi_undo.specs.Area.{notes_in, AreBelow, Works, CanGoBack}
use Rattle.mi_undo.specs.Answers.{Notes}
use Rattle.mi_undo.specs.Clear.{IsAmong, AreInside, AreAll}
use Rattle.mi_undo.proofs.NameLemmas.{marker_not_entry, marker_not_gate}
use Rattle.mi_undo.specs.Entry.{places_from, Enters}
use Rattle.mi_undo.specs.declared.kept.Place.{Place}
use Rattle.mi_undo.specs.declared.kept.Kept.{Kept}
use Rattle.mi_undo.specs.declared.fault.OpFault.{OpFault}
use Rattle.mi_undo.proofs.FaultLemmas.{at_err}
use Rattle.mi_undo.proofs.NotesOf.{all_notes-push, all_new}
use Rattle.mi_undo.proofs.NoteLemmas.{keeps_open}
use Rattle.mi_undo.proofs.EntryLemmas.{notes_in_same, notes_in-append, places_below, below-append, below_more}

-- An area in order can be gone back over.
pub works_go_back : (s : State) (kept : Kept) (F : Map) → Works s kept F → CanGoBack s kept F
works_go_back s kept F w = record {
  notes = all_notes w.parts;
  keeps = keeps_open s F w.parts w.is_open.standing;
  are_new = all_new [] w.parts w.is_open.standing.are_new;
  placed = w.placed;
  tried = length w.parts;
  few = w.is_open.standing.few;
  area = w.area;
  only = w.is_open.only;
  marker = w.marker;
}

area_next : (n : ℕ) → area_names (suc n) ≡ area_names n ++ entry_name n ∷ gate_name n ∷ []
unfolding area_names
area_next n = refl

area_more : (n : ℕ) → area_names (n + 1) ≡ area_names n ++ entry_name n ∷ gate_name n ∷ []
area_more n = ap area_names (let e : n + 1 ≡ suc n = omega arith in e) ∙ area_next n

module _ (s : State) (kept kept' : Kept) (F : Map) (w : Works s kept F) (marker_same : kept'.marker ≡ kept.marker) where
  -- nothing was written yet
  pub unwritten : {T E : Type 0} (r : Result T E) → kept'.places.items ≡ kept.places.items → kept'.area.items ≡ kept.area.items → IsErr r → Notes s s kept' F r
  unwritten r places_same area_same fails = record {
    goes = started s (StandsFor F);
    works = at_err _ r fails;
    can_go_back = let back = works_go_back s kept F w in record {
      notes = back.notes;
      keeps = back.keeps;
      are_new = back.are_new;
      placed = ap (notes_in s.held) places_same ∙ back.placed;
      tried = back.tried;
      few = back.few;
      area = area_same ∙ back.area;
      only = back.only;
      marker = marker_same ∙ back.marker;
    };
    outside = refl;
  }

  -- all of these names were noted before
  pub noted_before : kept'.places.items ≡ kept.places.items → kept'.area.items ≡ kept.area.items → kept'.entries ≡ kept.entries → Notes {T = Unit {0}} {E = OpFault} s s kept' F (Ok tt)
  noted_before places_same area_same entries_same =
      let now : Works s kept' F = record {
        parts = w.parts;
        is_open = w.is_open;
        placed = ap (notes_in s.held) places_same ∙ w.placed;
        numbers = subst (λ (l : List Place). AreBelow (length w.parts) l) (sym places_same) w.numbers;
        entries = entries_same ∙ w.entries;
        area = area_same ∙ w.area;
        marker = marker_same ∙ w.marker;
      } in
      record { goes = started s (StandsFor F); works = now; can_go_back = works_go_back s kept' F now; outside = refl }

  module _ (t : State) (ns : List Note) (enters : Result (Vec Place Global) OpFault) (e : Enters kept.entries F w.parts ns s t enters) (few : kept.entries < most_entries) (kept_area : kept'.area.items ≡ kept.area.items ++ entry_name kept.entries ∷ gate_name kept.entries ∷ []) where
    area_now : kept'.area.items ≡ area_names (length w.parts + 1)
    area_now = kept_area ∙ (λ i. w.area i ++ entry_name (w.entries i) ∷ gate_name (w.entries i) ∷ []) ∙ sym (area_more (length w.parts))

    old_places : notes_in t.held kept.places.items ≡ all_notes w.parts
    old_places = notes_in_same s.held t.held (length w.parts) kept.places.items e.others w.numbers ∙ w.placed

    -- the entry wasn't made, or isn't kept
    pub unkept : {T E : Type 0} (r : Result T E) → kept'.places.items ≡ kept.places.items → IsErr r → Notes s t kept' F r
    unkept r places_same fails = record {
      goes = e.trying.goes;
      works = at_err _ r fails;
      can_go_back = record {
        notes = all_notes w.parts;
        keeps = e.trying.keeps;
        are_new = all_new [] w.parts w.is_open.standing.are_new;
        placed = ap (notes_in t.held) places_same ∙ old_places;
        tried = length w.parts + 1;
        few = omega (arith, few, w.entries);
        area = area_now;
        only = e.trying.only;
        marker = marker_same ∙ w.marker;
      };
      outside = e.trying.outside;
    }

    pub noted : (v : Vec Place Global) → IsOpen t F (w.parts ++ ns ∷ []) → notes_in t.held v.items ≡ ns → v.items ≡ places_from kept.entries 0 ns → kept'.places.items ≡ kept.places.items ++ v.items → kept'.entries ≡ kept.entries + 1 → Notes {T = Unit {0}} {E = OpFault} s t kept' F (Ok tt)
    noted v open_now placed_now are more entries_more =
        let longer = length-append w.parts (ns ∷ []) in
        let now : Works t kept' F = record {
          parts = w.parts ++ ns ∷ [];
          is_open = open_now;
          placed = ap (notes_in t.held) more ∙ notes_in-append t.held kept.places.items v.items ∙ (λ i. old_places i ++ placed_now i) ∙ sym (all_notes-push w.parts ns);
          numbers = subst (λ (l : List Place). AreBelow (length (w.parts ++ ns ∷ [])) l) (sym more)
              (below-append _ kept.places.items v.items (below_more (length w.parts) (length (w.parts ++ ns ∷ [])) kept.places.items (omega (arith, longer)) w.numbers)
              (subst (λ (l : List Place). AreBelow (length (w.parts ++ ns ∷ [])) l) (sym are) (places_below kept.entries 0 (length (w.parts ++ ns ∷ [])) ns (omega (arith, longer, w.entries)))));
          entries = omega (arith, entries_more, w.entries, longer);
          area = area_now ∙ ap area_names (let same : length w.parts + 1 ≡ length (w.parts ++ ns ∷ []) = omega (arith, longer) in same);
          marker = marker_same ∙ w.marker;
        } in
        record { goes = e.trying.goes; works = now; can_go_back = works_go_back t kept' F now; outside = e.trying.outside }

among_left : (xs ys : List (List ℕ)) (q : List ℕ) → IsAmong q xs → IsAmong q (xs ++ ys)
among_left [] ys q among = absurd among
among_left (x ∷ xs) ys q among = ⊎_elim (λ is. inl is) (λ rest. inr (among_left xs ys q rest)) among

among_right : (xs ys : List (List ℕ)) (q : List ℕ) → IsAmong q ys → IsAmong q (xs ++ ys)
among_right [] ys q among = among
among_right (x ∷ xs) ys q among = inr (among_right xs ys q among)

inside-append : (xs ys : List (List ℕ)) → AreInside xs → AreInside ys → AreInside (xs ++ ys)
inside-append [] ys a b = b
inside-append (x ∷ xs) ys a b = (a.0, a.1, inside-append xs ys a.2 b)

last_or_below : (n k : ℕ) → k < suc n → (k ≡ n) ⊎ (k < n)
last_or_below n k below = grind arith

-- the names of the area are inside it
among_area : (n k : ℕ) (q : List ℕ) → k < n → (q ≡ entry_name k) ⊎ (q ≡ gate_name k) → IsAmong q (area_names n)
unfolding area_names
among_area zero k q below is = absurd (omega arith)
among_area (suc n) k q below is = ⊎_elim
    (λ (same : k ≡ n). among_right (area_names n) _ q (⊎_elim (λ e. inl (e ∙ ap entry_name same)) (λ g. inr (inl (g ∙ ap gate_name same))) is))
    (λ (less : k < n). among_left (area_names n) _ q (among_area n k q less is))
    (let cases : (k ≡ n) ⊎ (k < n) = last_or_below n k below in cases)

pub all_of_area : (held : Map) (n : ℕ) → OnlyBelow held n → AreAll held (area_names n)
all_of_area held n only q inside ne = ⊎_elim (λ none. inl none) (λ (among : (k : ℕ) × ((k < n) × ((q ≡ entry_name k) ⊎ (q ≡ gate_name k)))). inr (among_area n among.0 q among.1.0 among.1.1)) (only q inside ne)

pub area_inside : (n : ℕ) → AreInside (area_names n)
unfolding area_names
area_inside zero = tt
area_inside (suc n) = inside-append (area_names n) (entry_name n ∷ gate_name n ∷ []) (area_inside n) (refl, (λ e. marker_not_entry n (sym e)), (refl, (λ e. marker_not_gate n (sym e)), tt))
