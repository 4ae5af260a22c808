-- A commit, by its answers.
use Rattle.std.proofs.Common.{◌≡◌, inl, inr, ℕ, ◌<◌, false, cond, not, List, [], length, None, Result, Ok, Err, IsErr, OnOk, refl, sym, ap, subst, ◌∙◌}
use Rattle.std.specs.FinMap.{get}
use Rattle.mi_volume.specs.Maps.{Map, HoldsByte}
use Rattle.mi_volume.specs.State.{State, GoesOn, Images, Passes, Rose, Stays, NothingDirty}
use Rattle.mi_volume.specs.declared.volume.Failed.{Failed}
use Rattle.mi_volume.proofs.Moments.{weaker, joined, rose_before}
use Rattle.mi_undo.specs.Names.{marker, entry_name, gate_name}
use Rattle.mi_undo.specs.Notes.{Note, all_notes}
use Rattle.mi_undo.specs.Stands.{StandsFor, outside, is_one}
use Rattle.mi_undo.specs.Keeps.{Each, EitherFor, IsStanding, OnlyBelow, Opened, IsFree}
use Rattle.mi_undo.specs.Area.{notes_in, Works, CanGoBack}
use Rattle.mi_undo.specs.Answers.{Commits, InCommit, IfUnknown, IsFreeUnlessRose}
use Rattle.mi_undo.specs.Commit.{IsClosed, IsHalfway, Closes}
use Rattle.mi_undo.specs.Clear.{StandsPlainly, IsShut, AreInside, AreAll, Clears}
use Rattle.mi_undo.specs.declared.kept.Kept.{Kept}
use Rattle.mi_undo.specs.declared.fault.CommitFault.{CommitFault}
use Rattle.mi_undo.specs.declared.fault.CommitFault.TheVariants.{Before, Undoable, Unknown}
use Rattle.mi_undo.proofs.NameLemmas.{marker_not_entry}
use Rattle.mi_undo.proofs.NotesOf.{all_new}
use Rattle.mi_undo.proofs.StandsLemmas.{get-outside}
use Rattle.mi_undo.proofs.NoteLemmas.{keeps_open}
use Rattle.mi_undo.proofs.StepLemmas.{image_is_of}
use Rattle.mi_undo.proofs.EntryLemmas.{notes_in_same}
use Rattle.mi_undo.proofs.OnlyLemmas.{only_same, only_held, open_from}
use Rattle.mi_undo.proofs.AreaLemmas.{works_go_back, all_of_area, area_inside}
use Rattle.mi_undo.proofs.CloseLemmas.{halfway_image, one_is}
use Rattle.mi_undo.proofs.BackSteps.{keeps_image, keeps_stays}
use Rattle.mi_undo.proofs.OutsideLemmas.{marker_step}

-- besides the area it is F, and the marker is shut
pub shut_from : (s : State) (F : Map) → is_one (get s.held marker) ≡ false → NothingDirty s → outside s.held ≡ F → IsShut s F
shut_from s F shut clean is = record {
  shut = shut;
  solid = clean marker;
  others = λ q out. sym (ap (λ (m : Map). get m q) (sym is) ∙ get-outside s.held q ∙ ap (λ b. cond (not b) (get s.held q) None) out);
  solid_others = λ q out. clean q;
  nothing_inside = λ q inside. ap (λ (m : Map). get m q) (sym is) ∙ get-outside s.held q ∙ ap (λ b. cond (not b) (get s.held q) None) inside;
}

-- a call that changes nothing
pub standing_stays : (s t : State) (F : Map) (parts : List (List Note)) → IsStanding s F parts → Stays s t → IsStanding t F parts
standing_stays s t F parts o stays = record {
  marked = ap (λ (m : Map). is_one (get m marker)) stays.held ∙ o.marked;
  opened = subst (λ (m : Map). Opened m 0 parts) (sym stays.held) o.opened;
  are_new = o.are_new;
  few = o.few;
  solid_marker = λ now. o.solid_marker (stays.dirty marker now);
  solid_gates = λ k below now. o.solid_gates k below (stays.dirty (gate_name k) now);
  solid_entries = λ k below now. o.solid_entries k below (stays.dirty (entry_name k) now);
  no_gate = λ k low below. ap (λ (m : Map). get m (gate_name k)) stays.held ∙ o.no_gate k low below;
  others = λ q out none. ap (λ (m : Map). get m q) stays.held ∙ o.others q out none;
  solid_others = λ q out none now. o.solid_others q out none (stays.dirty q now);
  olds = o.olds;
  outside = o.outside;
  nothing_inside = o.nothing_inside;
}

pub works_stays : (s t : State) (kept : Kept) (F : Map) → Works s kept F → Stays s t → Works t kept F
works_stays s t kept F w stays = record {
  parts = w.parts;
  is_open = open_from t F w.parts (standing_stays s t F w.parts w.is_open.standing stays) (only_held s.held t.held (length w.parts) stays.held w.is_open.only);
  placed = ap (λ (m : Map). notes_in m kept.places.items) stays.held ∙ w.placed;
  numbers = w.numbers;
  entries = w.entries;
  area = w.area;
  marker = w.marker;
}

pub works_byte : (s t : State) (kept : Kept) (F : Map) → Works s kept F → Stays s t → HoldsByte t.held kept.marker
works_byte s t kept F w stays = (1, (λ i. get (stays.held i) (w.marker i)) ∙ one_is (get s.held marker) w.is_open.standing.marked)

pub go_back_stays : (s t : State) (kept : Kept) (F : Map) → CanGoBack s kept F → Stays s t → CanGoBack t kept F
go_back_stays s t kept F back stays = record {
  notes = back.notes;
  keeps = keeps_stays s t F back.notes back.keeps stays;
  are_new = back.are_new;
  placed = ap (λ (m : Map). notes_in m kept.places.items) stays.held ∙ back.placed;
  tried = back.tried;
  few = back.few;
  area = back.area;
  only = only_held s.held t.held back.tried stays.held back.only;
  marker = back.marker;
}

pub works_image : (s : State) (kept : Kept) (F : Map) → Works s kept F → (d : Map) → Images s d → StandsFor F d
works_image s kept F w = keeps_image s F (all_notes w.parts) (keeps_open s F w.parts w.is_open.standing)

-- the sync before the commit write
module _ (s t : State) (kept : Kept) (F : Map) (w : Works s kept F) (looks : GoesOn s t (Images s)) (stays : Stays s t) where
  first : GoesOn s t (StandsFor F)
  first = weaker s t (Images s) (StandsFor F) (works_image s kept F w) looks

  abbrev A : Map
  A = outside s.held

  now : Works t kept F
  now = works_stays s t kept F w stays

  same_outside : outside t.held ≡ outside s.held
  same_outside = ap outside stays.held

  pub commit_before : Commits {T = Unit {0}} s t kept F (outside s.held) (Err Before)
  commit_before = record {
    goes = first;
    outside = same_outside;
    leaves = tt;
    free = tt;
    before = λ _. works_go_back t kept F now;
    undoable = λ _. works_go_back t kept F now;
    unknown = tt;
  }

  module _ (u : State) (T : Type 0) (result : Result T CommitFault) (c : Closes t u F w.parts result) where
    second : GoesOn s u (EitherFor F (outside s.held))
    second = joined s t u (EitherFor F (outside s.held)) (weaker s t (StandsFor F) (EitherFor F (outside s.held)) (λ d p. inl p) first) (subst (λ (a : Map). GoesOn t u (EitherFor F a)) same_outside c.goes)

    outside_now : outside u.held ≡ outside s.held
    outside_now = marker_step t.held u.held marker refl c.only.others ∙ same_outside

    entries_same : (k : ℕ) → k < length w.parts → get u.held (entry_name k) ≡ get t.held (entry_name k)
    entries_same k below = c.only.others (entry_name k) (λ e. marker_not_entry k (sym e))

    only_now : OnlyBelow u.held (length w.parts)
    only_now = only_same t.held u.held marker (length w.parts) (only_held s.held t.held (length w.parts) stays.held w.is_open.only) c.only.others (λ inside ne. ne refl)

    open_again : IsStanding u F w.parts → CanGoBack u kept F
    open_again standing = record {
      notes = all_notes w.parts;
      keeps = keeps_open u F w.parts standing;
      are_new = all_new [] w.parts standing.are_new;
      placed = notes_in_same t.held u.held (length w.parts) kept.places.items entries_same w.numbers ∙ ap (λ (m : Map). notes_in m kept.places.items) stays.held ∙ w.placed;
      tried = length w.parts;
      few = standing.few;
      area = w.area;
      only = only_now;
      marker = w.marker;
    }

    pub commit_failed : (fault : CommitFault) → result ≡ Err fault → (fault ≡ Before → ⊥) → Commits {T = Unit {0}} s u kept F (outside s.held) (Err fault)
    commit_failed fault is not_before = record {
      goes = in_commit fault not_before;
      outside = outside_now;
      leaves = tt;
      free = tt;
      before = λ e. absurd (not_before (same_fault fault Before e));
      undoable = λ e. open_again (c.undoable (is ∙ ap Err (same_fault fault Undoable e)));
      unknown = halfway fault (subst (λ (r : Result T CommitFault). IfUnknown r (λ a b. IsHalfway u F (outside t.held))) is c.unknown);
    }
      where
        same_fault : (a b : CommitFault) → ◌≡◌ {A = Result (Unit {0}) CommitFault} (Err a) (Err b) → a ≡ b
        same_fault a b e = cc

        in_commit : (fault : CommitFault) → (fault ≡ Before → ⊥) → GoesOn s u (InCommit {T = Unit {0}} F (outside s.held) (Err fault))
        in_commit Before never = absurd (never refl)
        in_commit Undoable never = second
        in_commit (Unknown a b) never = second

        halfway : (fault : CommitFault) → IfUnknown {T = T} (Err fault) (λ a b. IsHalfway u F (outside t.held)) → IfUnknown {T = Unit {0}} (Err fault) (λ a b. Each u (EitherFor F (outside s.held)))
        halfway Before half = tt
        halfway Undoable half = tt
        halfway (Unknown a b) half = λ d image. subst (λ (m : Map). EitherFor F m d) same_outside (halfway_image u F (outside t.held) half d (image_is_of u marker d image))

    -- the closed marker is on the disk, and the area is taken away
    module _ (closed : IsClosed u (outside t.held)) where
      pub shut_now : IsShut u (outside s.held)
      shut_now = shut_from u (outside s.held) closed.shut closed.clean (closed.others ∙ same_outside)

      pub inside_now : AreInside kept.area.items
      inside_now = subst AreInside (sym w.area) (area_inside (length w.parts))

      pub all_now : AreAll u.held kept.area.items
      all_now = subst (λ (l : List (List ℕ)). AreAll u.held l) (sym w.area) (all_of_area u.held (length w.parts) only_now)

      pub commit_done : (v : State) (r : Result (Unit {0}) Failed) → Clears u v (outside s.held) r → Passes s u → (IsErr r → Rose u v) → Commits {T = Unit {0}} s v kept F (outside s.held) (Ok tt)
      commit_done v r clears passes rose = record {
        goes = joined s u v (EitherFor F (outside s.held)) second (weaker u v (StandsPlainly (outside s.held)) (EitherFor F (outside s.held)) (λ d p. inr p.0) clears.goes);
        outside = clears.outside;
        leaves = clears.leaves;
        free = free r clears.ok rose;
        before = λ e. absurd (cc);
        undoable = λ e. absurd (cc);
        unknown = tt;
      }
        where
          free : (r : Result (Unit {0}) Failed) → OnOk r (IsFree v × (v.held ≡ outside s.held)) → (IsErr r → Rose u v) → IsFreeUnlessRose s v
          free (Ok x) ok up = inl ok.0
          free (Err e) ok up = inr (rose_before s u v passes (up refl))
