-- All noted names are put back, and the marker is shut.
use Rattle.std.proofs.Common.{◌≡◌, ◌≢◌, true, Some, None, inl, inr, ⊎_elim, ℕ, List, [], ◌∷◌, Result, Ok, Err, IsErr, OnOk, refl, sym, ap, subst, ◌∙◌}
use Rattle.std.specs.FinMap.{get, insert}
use Rattle.mi_volume.specs.Maps.{Map, HoldsByte}
use Rattle.mi_volume.specs.State.{State, GoesOn, Images, ImagesOf, Stays, NothingDirty, Passes, Rose}
use Rattle.mi_volume.specs.declared.volume.Failed.{Failed}
use Rattle.mi_volume.proofs.Moments.{weaker, joined, rose_before}
use Rattle.mi_undo.specs.Names.{marker, is_inside}
use Rattle.mi_undo.specs.Notes.{Note}
use Rattle.mi_undo.specs.Stands.{StandsFor, outside}
use Rattle.mi_undo.specs.Keeps.{IsNoted, Keeps, IsFree, EitherFor}
use Rattle.mi_undo.specs.Steps.{Touches, SealsByte}
use Rattle.mi_undo.specs.Room.{LeavesAtMost, GoesOnWithRoom}
use Rattle.mi_undo.specs.Area.{CanGoBack}
use Rattle.mi_undo.specs.Answers.{GoesBack, IsFreeUnlessRose}
use Rattle.mi_undo.specs.declared.kept.Kept.{Kept}
use Rattle.mi_undo.specs.declared.fault.BackFault.{BackFault}
use Rattle.mi_undo.proofs.AreaLemmas.{all_of_area, area_inside}
use Rattle.mi_undo.specs.Commit.{IsHalfway}
use Rattle.mi_undo.specs.Clear.{IsShut, AreInside, AreAll, Clears}
use Rattle.mi_undo.proofs.ClearLemmas.{plainly}
use Rattle.mi_undo.specs.Back.{InsideStays, Removed, Returned, PutsBack, Shuts}
use Rattle.mi_undo.proofs.FaultLemmas.{at_err, all_err}
use Rattle.mi_undo.proofs.StepLemmas.{image_is_of}
use Rattle.mi_undo.proofs.TouchLemmas.{touches_then, touches_none, touches_name}
use Rattle.mi_undo.proofs.RecoverLemmas.{goes_with_room, reads_beside, left_beside, plain_room, room_then}
use Rattle.mi_undo.proofs.BackSteps.{keeps_byte, keeps_image, keeps_stays, back_halfway}
use Rattle.mi_undo.proofs.CloseLemmas.{halfway_image, halfway_step, closed}
use Rattle.mi_undo.proofs.OutsideLemmas.{marker_step}
use Rattle.mi_undo.proofs.CommitLemmas.{shut_from}

-- the removals failed
pub unput : {T E U G : Type 0} (s t : State) (F : Map) (ns : List Note) (r : Result T E) (e : Result U G) → Removed s t F ns r → IsErr e → PutsBack s t F ns e
unput s t F ns r e removed fails = record { goes = removed.goes; keeps = removed.keeps; inside = removed.inside; touches = removed.touches; back = at_err _ e fails; clean = at_err _ e fails }

module _ {T E : Type 0} (s t u : State) (F : Map) (ns : List Note) (r : Result T E) (first : GoesOn s t (StandsFor F)) (inside : InsideStays s.held t.held) (touches : Touches (IsNoted ns) s t) (returned : Returned t u F ns r) where
  put_goes : GoesOn s u (StandsFor F)
  put_goes = joined s t u (StandsFor F) first returned.goes

  put_inside : InsideStays s.held u.held
  put_inside q within = returned.inside q within ∙ inside q within

  put_touches : Touches (IsNoted ns) s u
  put_touches = touches_then (IsNoted ns) s t u touches returned.touches

  -- the returns failed
  pub half_put : {U G : Type 0} (e : Result U G) → IsErr e → PutsBack s u F ns e
  half_put e fails = record { goes = put_goes; keeps = returned.keeps; inside = put_inside; touches = put_touches; back = at_err _ e fails; clean = at_err _ e fails }

  module _ (v : State) (last : GoesOn u v (Images u)) (stays : Stays u v) where
    synced_goes : GoesOn s v (StandsFor F)
    synced_goes = joined s u v (StandsFor F) put_goes (weaker u v (Images u) (StandsFor F) (keeps_image u F ns returned.keeps) last)

    synced_inside : InsideStays s.held v.held
    synced_inside q within = ap (λ (m : Map). get m q) stays.held ∙ put_inside q within

    synced_touches : Touches (IsNoted ns) s v
    synced_touches = touches_then (IsNoted ns) s u v put_touches (touches_none (IsNoted ns) u v last stays)

    pub unsynced_put : {U G : Type 0} (e : Result U G) → IsErr e → PutsBack s v F ns e
    unsynced_put e fails = record { goes = synced_goes; keeps = keeps_stays u v F ns returned.keeps stays; inside = synced_inside; touches = synced_touches; back = at_err _ e fails; clean = at_err _ e fails }

    pub all_put : {U G : Type 0} (x : U) → outside u.held ≡ F → NothingDirty v → PutsBack {E = G} s v F ns (Ok x)
    all_put x back clean = record { goes = synced_goes; keeps = keeps_stays u v F ns returned.keeps stays; inside = synced_inside; touches = synced_touches; back = ap outside stays.held ∙ back; clean = clean }

-- the marker is shut
module _ (s t : State) (F : Map) (ns : List Note) (name : List ℕ) (keeps : Keeps s F ns) (clean : NothingDirty s) (back : outside s.held ≡ F) (is : name ≡ marker) (r : Result (Unit {0}) Failed) (by_name : SealsByte name 0 s t r) where
  half : IsHalfway s F F
  half = back_halfway s F ns keeps clean back

  seals : SealsByte marker 0 s t r
  seals = subst (λ (n : List ℕ). SealsByte n 0 s t r) is by_name

  either : (d : Map) → EitherFor F F d → StandsFor F d
  either d p = ⊎_elim (λ f. f) (λ f. f) p

  pub shut_goes : GoesOn s t (StandsFor F)
  shut_goes = weaker s t (ImagesOf marker s) (StandsFor F) (λ d image. either d (halfway_image s F F half d image)) seals.only.goes

  shut_outside_now : outside t.held ≡ F
  shut_outside_now = marker_step s.held t.held marker refl seals.only.others ∙ back

  shut_room : (n : ℕ) → LeavesAtMost n s → GoesOnWithRoom s t F n
  shut_room n left = goes_with_room s t F n shut_goes (reads_beside n s t (λ q. q ≡ marker) left (λ q is within ne. ne is) (touches_name (λ q. q ≡ marker) s t marker (λ q is. is) seals.only.goes seals.only.others seals.only.dirty))

  pub unshut : {U G : Type 0} (e : Result U G) → IsErr e → Shuts s t F e
  unshut e fails = record {
    goes = shut_goes;
    leaves = λ d image. either d (halfway_image t F F (halfway_step s t F F half seals.only.others seals.only.dirty seals.one_byte) d (image_is_of t marker d image));
    outside = shut_outside_now;
    free = at_err _ e fails;
    room = shut_room;
  }

  pub shut_then : OnOk r ((t.held ≡ insert s.held marker (0 ∷ [])) × NothingDirty t) → OnOk r (IsShut t F)
  shut_then ok = at r ok
    where
      at : (r : Result (Unit {0}) Failed) → OnOk r ((t.held ≡ insert s.held marker (0 ∷ [])) × NothingDirty t) → OnOk r (IsShut t F)
      at (Ok x) ok = let c = closed s t F F half ok.0 ok.1 in shut_from t F c.shut c.clean c.others
      at (Err e) ok = tt

  pub shut_sealed : OnOk r (IsShut t F)
  shut_sealed = shut_then seals.ok

  pub all_after : (names : List (List ℕ)) → AreAll s.held names → AreAll t.held names
  all_after names all q within ne = ⊎_elim (λ none. inl (seals.only.others q ne ∙ none)) (λ among. inr among) (all q within ne)

pub shut_cleared : {T E U G : Type 0} (s t u : State) (F : Map) (r : Result T E) (e : Result U G) → Shuts s t F e → Clears t u F r → Shuts s u F r
shut_cleared s t u F r e first clears = record {
  goes = joined s t u (StandsFor F) first.goes (plainly t u F clears.goes);
  leaves = clears.leaves;
  outside = clears.outside;
  free = at r clears.ok;
  room = λ n left. room_then s t u F n (first.room n left) (plain_room t u F n clears.goes);
}
  where
    at : {T E : Type 0} (r : Result T E) → OnOk r (IsFree u × (u.held ≡ F)) → OnOk r (IsFree u)
    at (Ok x) ok = ok.0
    at (Err e) ok = tt

-- The area is gone back over, by its answers.
module _ (s : State) (kept : Kept) (F : Map) (can : CanGoBack s kept F) (t : State) where
  pub not_gone : {T E : Type 0} (r : Result T E) (e : Result (Unit {0}) BackFault) → PutsBack s t F can.notes r → IsErr e → GoesBack s t F e
  not_gone r e puts fails = record { goes = puts.goes; leaves = keeps_image t F can.notes puts.keeps; outside = at_err _ e fails; free = at_err _ e fails; marked = all_err _ e puts.keeps.marked }

  pub byte_after : {T E : Type 0} (r : Result T E) → PutsBack s t F can.notes r → HoldsByte t.held kept.marker
  byte_after r puts = keeps_byte t F can.notes kept.marker can.marker puts.keeps

  pub area_after : {T E : Type 0} (r : Result T E) → PutsBack s t F can.notes r → AreAll t.held kept.area.items
  area_after r puts =
      subst (λ (l : List (List ℕ)). AreAll t.held l) (sym can.area)
      (all_of_area t.held can.tried (λ q within ne. ⊎_elim (λ none. inl (puts.inside q within ∙ none)) (λ among. inr among) (can.only q within ne)))

  pub area_within : AreInside kept.area.items
  area_within = subst AreInside (sym can.area) (area_inside can.tried)

  pub gone_back : {T E : Type 0} (r : Result T E) → PutsBack s t F can.notes r → Passes s t → (u : State) (w : Result (Unit {0}) Failed) → Shuts t u F w → (IsErr w → Rose t u) → GoesBack {T = Unit {0}} {E = BackFault} s u F (Ok tt)
  gone_back r puts passes u w shuts rose = record { goes = joined s t u (StandsFor F) puts.goes shuts.goes; leaves = shuts.leaves; outside = shuts.outside; free = free w shuts.free rose; marked = tt }
    where
      free : (w : Result (Unit {0}) Failed) → OnOk w (IsFree u) → (IsErr w → Rose t u) → IsFreeUnlessRose s u
      free (Ok x) ok up = inl ok
      free (Err e) ok up = inr (rose_before s t u passes (up refl))

  -- recovery has room meanwhile
  module _ (n : ℕ) (left : LeavesAtMost n s) where
    not_inside : (q : List ℕ) → IsNoted can.notes q → is_inside q ≡ true → q ≢ marker → ⊥
    not_inside q noted within ne = let both : Some noted.0 ≡ None = sym noted.1 ∙ can.keeps.outside q within in cc

    pub put_room : {T E : Type 0} (r : Result T E) → PutsBack s t F can.notes r → GoesOnWithRoom s t F n
    put_room r puts = goes_with_room s t F n puts.goes (reads_beside n s t (IsNoted can.notes) left not_inside puts.touches)

    pub back_room : {T E U G : Type 0} (r : Result T E) → PutsBack s t F can.notes r → (u : State) (w : Result U G) → Shuts t u F w → GoesOnWithRoom s u F n
    back_room r puts u w shuts = room_then s t u F n (put_room r puts) (shuts.room n (left_beside n s t (IsNoted can.notes) left not_inside puts.touches))
