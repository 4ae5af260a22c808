-- Going back.
use Rattle.std.proofs.Common.{◌≡◌, ◌≢◌, inl, inr, ⊎_elim, ℕ, ◌+◌, ◌-◌, Bool, true, false, ◌&&◌, cond, not, List, [], ◌∷◌, ◌++◌, length, take, drop, get_or, ◌<◌, take-append-drop, is_none, Option, Some, None, refl, sym, ap, subst, ◌∙◌}
use Rattle.std.proofs.lemmas.List.{take_more, drop_more}
use Rattle.std.specs.FinMap.{get, remove}
use Rattle.std.specs.Option.{option_map}
use Rattle.mi_volume.specs.Maps.{Map, OthersStay, bytes_or_none}
use Rattle.mi_volume.specs.State.{State, GoesOn, ImagesOf, OnlyDirties}
use Rattle.mi_text.specs.Maps.{same_name}
use Rattle.mi_text.proofs.MapLemmas.{same, same_itself}
use Rattle.mi_volume.proofs.MapLemmas.{name_cases, get-remove_same, same_name-other}
use Rattle.mi_volume.proofs.Moments.{weaker, joined, started}
use Rattle.mi_undo.specs.Names.{is_inside, marker, entry_name}
use Rattle.mi_undo.specs.Area.{note_in, notes_in}
use Rattle.mi_undo.specs.declared.kept.Place.{Place}
use Rattle.mi_undo.specs.declared.kept.Span.{Span}
use Rattle.mi_undo.proofs.EntryLemmas.{notes_in-append}
use Rattle.mi_undo.specs.Notes.{Note, note_of, is_note, are_new}
use Rattle.mi_undo.specs.Stands.{StandsFor, outside, is_one}
use Rattle.mi_undo.specs.Keeps.{Robust, IsNoted, Loose, Keeps}
use Rattle.mi_undo.specs.Steps.{Touches}
use Rattle.mi_undo.specs.Back.{InsideStays, Removing, Returning}
use Rattle.mi_undo.proofs.StandsLemmas.{get-outside}
use Rattle.mi_undo.proofs.NotesOf.{none_left, none_right, note_of-append, first_of_two, both_true, new_unseen}
use Rattle.mi_undo.proofs.OpenLemmas.{robust_step}
use Rattle.mi_undo.proofs.TouchLemmas.{touches_start, touches_then, touches_name}
use Rattle.mi_undo.proofs.NoteLemmas.{OrName, image_stands}

-- a change of a noted name
noted_robust : (s : State) (F : Map) (ns : List Note) (x : List ℕ) → Keeps s F ns → IsNoted ns x → Robust s.held (OrName (Loose s ns) x) F
noted_robust s F ns x keeps noted =
    robust_step s.held s.held (Loose s ns) (OrName (Loose s ns) x) F keeps.robust (λ q not_loose. refl)
    (λ q. ⊎_elim (λ loose. loose) (λ is. inr (subst (λ (y : List ℕ). IsNoted ns y) (sym is) noted)))

pub noted_goes : (s t : State) (F : Map) (ns : List Note) (x : List ℕ) → Keeps s F ns → IsNoted ns x → GoesOn s t (ImagesOf x s) → GoesOn s t (StandsFor F)
noted_goes s t F ns x keeps noted = weaker s t (ImagesOf x s) (StandsFor F) (image_stands s F ns x (noted_robust s F ns x keeps noted))

pub noted_keeps : (s t : State) (F : Map) (ns : List Note) (x : List ℕ) → Keeps s F ns → IsNoted ns x → OthersStay x s.held t.held → OnlyDirties x s t → Keeps t F ns
noted_keeps s t F ns x keeps noted others dirty = record {
  robust = robust_step s.held t.held (OrName (Loose s ns) x) (Loose t ns) F (noted_robust s F ns x keeps noted)
      (λ q not_loose. others q (λ is. not_loose (inr is)))
      (λ q loose. ⊎_elim (λ now. ⊎_elim (λ is. inr is) (λ ne. inl (inl (dirty q ne now))) (name_cases q x)) (λ noted_q. inl (inr noted_q)) loose);
  marked = ap is_one (others marker (λ is. clash marker is (keeps.outside marker refl))) ∙ keeps.marked;
  others = λ q out none. others q (λ is. clash q is none) ∙ keeps.others q out none;
  olds = keeps.olds;
  outside = keeps.outside;
  nothing_inside = keeps.nothing_inside;
}
  where
    clash : (q : List ℕ) → q ≡ x → note_of ns q ≡ None → ⊥
    clash q is none = let both : Some noted.0 ≡ None = sym noted.1 ∙ ap (λ (y : List ℕ). note_of ns y) (sym is) ∙ none in cc

pub note_of-one : (n : Note) (q : List ℕ) → q ≢ n.name → note_of (n ∷ []) q ≡ None
note_of-one n q ne = ap (λ b. cond b (Some n.was) None) (same_name-other q n.name ne)

pub note_of-head : (n : Note) (rest : List Note) → note_of (n ∷ rest) n.name ≡ Some n.was
note_of-head n rest = ap (λ b. cond b (Some n.was) (note_of rest n.name)) (same_itself n.name)

-- a note of the list is there
pub is_noted : (front rest : List Note) (n : Note) → IsNoted (front ++ n ∷ rest) n.name
is_noted front rest n = at (note_of front n.name) refl
  where
    at : (o : Option (Option (List ℕ))) → note_of front n.name ≡ o → IsNoted (front ++ n ∷ rest) n.name
    at None none = (n.was, note_of-append front (n ∷ rest) n.name ∙ ap (λ (x : Option (Option (List ℕ))). first_of_two x (note_of (n ∷ rest) n.name)) none ∙ note_of-head n rest)
    at (Some w) some = (w, note_of-append front (n ∷ rest) n.name ∙ ap (λ (x : Option (Option (List ℕ))). first_of_two x (note_of (n ∷ rest) n.name)) some)

module _ (s0 s : State) (F : Map) (ns front rest : List Note) (n : Note) (is : ns ≡ front ++ n ∷ rest) where
  here : IsNoted ns n.name
  here = subst (λ (l : List Note). IsNoted l n.name) (sym is) (is_noted front rest n)

  pub step_goes : (t : State) → GoesOn s0 s (StandsFor F) → Keeps s F ns → GoesOn s t (ImagesOf n.name s) → GoesOn s0 t (StandsFor F)
  step_goes t so_far keeps goes = joined s0 s t (StandsFor F) so_far (noted_goes s t F ns n.name keeps here goes)

  pub step_keeps : (t : State) → Keeps s F ns → OthersStay n.name s.held t.held → OnlyDirties n.name s t → Keeps t F ns
  step_keeps t keeps others dirty = noted_keeps s t F ns n.name keeps here others dirty

  pub step_inside : (t : State) → Keeps s F ns → OthersStay n.name s.held t.held → InsideStays s0.held s.held → InsideStays s0.held t.held
  step_inside t keeps others so_far q within = others q (λ e. let clash : Some here.0 ≡ None = sym here.1 ∙ ap (λ (y : List ℕ). note_of ns y) (sym e) ∙ keeps.outside q within in cc) ∙ so_far q within

  pub step_touches : (t : State) → Touches (IsNoted ns) s0 s → GoesOn s t (ImagesOf n.name s) → OthersStay n.name s.held t.held → OnlyDirties n.name s t → Touches (IsNoted ns) s0 t
  step_touches t so_far goes others dirty = touches_then (IsNoted ns) s0 s t so_far (touches_name (IsNoted ns) s t n.name (λ q e. subst (λ (x : List ℕ). IsNoted ns x) (sym e) here) goes others dirty)

  other_before : (q : List ℕ) (w : Option (List ℕ)) → q ≢ n.name → note_of (front ++ n ∷ []) q ≡ Some w → note_of front q ≡ Some w
  other_before q w ne some = at (note_of front q) refl
    where
      at : (o : Option (Option (List ℕ))) → note_of front q ≡ o → note_of front q ≡ Some w
      at None none =
          let clash : None ≡ Some w = sym (note_of-append front (n ∷ []) q ∙ ap (λ (x : Option (Option (List ℕ))). first_of_two x (note_of (n ∷ []) q)) none ∙ note_of-one n q ne) ∙ some in
          absurd (cc)
      at (Some v) before = before ∙ (sym (note_of-append front (n ∷ []) q ∙ ap (λ (x : Option (Option (List ℕ))). first_of_two x (note_of (n ∷ []) q)) before) ∙ some)

  pub removing_step : (t : State) → Removing s0 s F ns front → GoesOn s t (ImagesOf n.name s) → OthersStay n.name s.held t.held → OnlyDirties n.name s t → t.held ≡ remove s.held n.name → Removing s0 t F ns (front ++ n ∷ [])
  removing_step t so_far goes others dirty removed = record {
    goes = step_goes t so_far.goes so_far.keeps goes;
    keeps = step_keeps t so_far.keeps others dirty;
    inside = step_inside t so_far.keeps others so_far.inside;
    touches = step_touches t so_far.touches goes others dirty;
    away = λ q w noted. ⊎_elim
        (λ same. ap (λ (m : Map). get m q) removed ∙ ap (λ (x : List ℕ). get (remove s.held n.name) x) same ∙ get-remove_same s.held n.name)
        (λ ne. others q ne ∙ so_far.away q w (other_before q w ne noted))
        (name_cases q n.name);
  }

  pub new_before : are_new [] ns ≡ true → note_of front n.name ≡ None
  new_before new = first_here [] front (subst (λ (l : List Note). are_new [] l ≡ true) is new)
    where
      none_of : (o : Option (Option (List ℕ))) → is_none o ≡ true → o ≡ None
      none_of None t = refl
      none_of (Some w) t = absurd (cc)

      first_here : (seen front : List Note) → are_new seen (front ++ n ∷ rest) ≡ true → note_of front n.name ≡ None
      first_here seen [] new = refl
      first_here seen (p ∷ front) new =
          let parts = both_true (is_note p && is_none (note_of seen p.name)) (are_new (seen ++ p ∷ []) (front ++ n ∷ rest)) new in
          let there = is_noted front rest n in
          let before : note_of (p ∷ []) n.name ≡ None = none_right seen (p ∷ []) n.name (new_unseen (seen ++ p ∷ []) (front ++ n ∷ rest) parts.1 n.name there.0 there.1) in
          let later = first_here (seen ++ p ∷ []) front parts.1 in
          elim (same_name n.name p.name) as (λ b. cond b (Some p.was) None ≡ None → cond b (Some p.was) (note_of front n.name) ≡ None) [
            | true ↦ λ clash. absurd (cc)
            | false ↦ λ _. later
          ] before

  at_name : (tail : List Note) → are_new [] ns ≡ true → note_of (front ++ n ∷ tail) n.name ≡ Some n.was
  at_name tail new = note_of-append front (n ∷ tail) n.name ∙ ap (λ (x : Option (Option (List ℕ))). first_of_two x (note_of (n ∷ tail) n.name)) (new_before new) ∙ note_of-head n tail

  at_name_all : are_new [] ns ≡ true → note_of ns n.name ≡ Some n.was
  at_name_all new = ap (λ (l : List Note). note_of l n.name) is ∙ at_name rest new

  returning : (t : State) → Returning s0 s F ns front → are_new [] ns ≡ true → GoesOn s0 t (StandsFor F) → Keeps t F ns → Touches (IsNoted ns) s0 t → OthersStay n.name s.held t.held → get t.held n.name ≡ n.was → Returning s0 t F ns (front ++ n ∷ [])
  returning t so_far new goes keeps touches others held = record {
    goes = goes;
    keeps = keeps;
    inside = step_inside t so_far.keeps others so_far.inside;
    touches = touches;
    back = λ q w noted. ⊎_elim
        (λ same. ap (λ (x : List ℕ). get t.held x) same ∙ held ∙ same_value q w same noted)
        (λ ne. others q ne ∙ so_far.back q w (other_before q w ne noted))
        (name_cases q n.name);
    away = λ q w noted unnoted. others q (λ same. missing q same unnoted) ∙ so_far.away q w noted (none_left front (n ∷ []) q unnoted);
  }
    where
      same_value : (q : List ℕ) (w : Option (List ℕ)) → q ≡ n.name → note_of (front ++ n ∷ []) q ≡ Some w → n.was ≡ w
      same_value q w same noted = let both : Some n.was ≡ Some w = sym (at_name [] new) ∙ ap (λ (x : List ℕ). note_of (front ++ n ∷ []) x) (sym same) ∙ noted in cc

      missing : (q : List ℕ) → q ≡ n.name → note_of (front ++ n ∷ []) q ≡ None → ⊥
      missing q same unnoted = let both : Some n.was ≡ None = sym (at_name [] new) ∙ ap (λ (x : List ℕ). note_of (front ++ n ∷ []) x) (sym same) ∙ unnoted in cc

  -- where nothing was there, nothing is put
  pub returning_none : Returning s0 s F ns front → are_new [] ns ≡ true → n.was ≡ None → Returning s0 s F ns (front ++ n ∷ [])
  returning_none so_far new none = returning s so_far new so_far.goes so_far.keeps so_far.touches (λ q ne. refl) (so_far.away n.name n.was (at_name_all new) (new_before new) ∙ sym none)

  pub returning_some : (t : State) → Returning s0 s F ns front → are_new [] ns ≡ true → GoesOn s t (ImagesOf n.name s) → OthersStay n.name s.held t.held → OnlyDirties n.name s t → get t.held n.name ≡ n.was → Returning s0 t F ns (front ++ n ∷ [])
  returning_some t so_far new goes others dirty held =
      returning t so_far new (step_goes t so_far.goes so_far.keeps goes) (step_keeps t so_far.keeps others dirty) (step_touches t so_far.touches goes others dirty) others held

  -- the name of the note is away
  pub name_away : Returning s0 s F ns front → are_new [] ns ≡ true → get s.held n.name ≡ None
  name_away so_far new = so_far.away n.name n.was (at_name_all new) (new_before new)

  pub name_out : Keeps s F ns → is_inside n.name ≡ false
  name_out keeps = at (is_inside n.name) refl
    where
      at : (b : Bool) → is_inside n.name ≡ b → b ≡ false
      at true within = absurd (let clash : Some here.0 ≡ None = sym here.1 ∙ keeps.outside n.name within in cc)
      at false out = refl

pub removing_start : (s : State) (F : Map) (ns : List Note) → Keeps s F ns → Removing s s F ns []
removing_start s F ns keeps = record { goes = started s (StandsFor F); keeps = keeps; inside = λ q within. refl; touches = touches_start (IsNoted ns) s; away = λ q w is. absurd (cc) }

pub returning_start : (s : State) (F : Map) (ns : List Note) → Keeps s F ns → ((q : List ℕ) (w : Option (List ℕ)) → note_of ns q ≡ Some w → get s.held q ≡ None) → Returning s s F ns []
returning_start s F ns keeps away = record { goes = started s (StandsFor F); keeps = keeps; inside = λ q within. refl; touches = touches_start (IsNoted ns) s; back = λ q w is. absurd (cc); away = λ q w noted none. away q w noted }

-- all is as it was
pub all_back : (s t : State) (F : Map) (ns : List Note) → Returning s t F ns ns → outside t.held ≡ F
all_back s t F ns done = same (outside t.held) F (λ q. get-outside t.held q ∙ at q)
  where
    outer : (q : List ℕ) (o : Option (Option (List ℕ))) → is_inside q ≡ false → note_of ns q ≡ o → get t.held q ≡ get F q
    outer q None out none = done.keeps.others q out none
    outer q (Some w) out noted = done.back q w noted ∙ sym (done.keeps.olds q w noted)

    at : (q : List ℕ) → cond (not (is_inside q)) (get t.held q) None ≡ get F q
    at q =
        elim (is_inside q) as (λ b. is_inside q ≡ b → cond (not b) (get t.held q) None ≡ get F q) [
          | true ↦ λ inside. sym (done.keeps.nothing_inside q inside)
          | false ↦ λ out. outer q (note_of ns q) out refl
        ] refl

-- the notes round that of one place
pub split_at_place : (d : Map) (places : List Place) (i : ℕ) (p : Place) → i < length places → p ≡ get_or places i p → notes_in d places ≡ notes_in d (take i places) ++ note_in d p ∷ notes_in d (drop (i + 1) places)
split_at_place d places i p below is =
    ap (notes_in d) (sym (take-append-drop i places)) ∙ notes_in-append d (take i places) (drop i places)
    ∙ ap (λ (l : List Place). notes_in d (take i places) ++ notes_in d l) (drop_more places i p below ∙ ap (λ (x : Place). x ∷ drop (i + 1) places) (sym is))

pub take_place : (d : Map) (places : List Place) (i : ℕ) (p : Place) → i < length places → p ≡ get_or places i p → notes_in d (take (i + 1) places) ≡ notes_in d (take i places) ++ note_in d p ∷ []
take_place d places i p below is = ap (notes_in d) (take_more places i p below ∙ ap (λ (x : Place). take i places ++ x ∷ []) (sym is)) ∙ notes_in-append d (take i places) (p ∷ [])

-- the entries hold what they held
pub notes_in_inside : (h d : Map) (places : List Place) → InsideStays h d → notes_in d places ≡ notes_in h places
notes_in_inside h d [] stays = refl
notes_in_inside h d (p ∷ places) stays =
    (λ i. record { name = p.name; was = option_map (λ (s : Span). take (s.end - s.at) (drop s.at (bytes_or_none (stays (entry_name p.entry) refl i)))) p.old } ∷ notes_in_inside h d places stays i)

pub note_in_inside : (h d : Map) (p : Place) → InsideStays h d → note_in d p ≡ note_in h p
note_in_inside h d p stays i = record { name = p.name; was = option_map (λ (s : Span). take (s.end - s.at) (drop s.at (bytes_or_none (stays (entry_name p.entry) refl i)))) p.old }
