-- Beginning an area.
use Rattle.std.proofs.Common.{◌≡◌, ◌⊎◌, inl, inr, ⊎_elim, ℕ, ◌+◌, true, false, List, [], ◌∷◌, Result, Ok, IsErr, OnOk, refl, sym, ap, subst, ◌∙◌}
use Rattle.std.proofs.lemmas.Result.{on_ok_weaker}
use Rattle.std.specs.FinMap.{get, insert}
use Rattle.mi_volume.specs.Maps.{Map, Fits, Exceeds, size}
use Rattle.mi_volume.specs.State.{State, GoesOn, ImagesOf, NothingDirty, Stays, Rose}
use Rattle.mi_volume.proofs.Moments.{started, weaker}
use Rattle.mi_undo.specs.Names.{marker, gate_name, area_names}
use Rattle.mi_undo.specs.Stands.{StandsFor, is_one, noted, outside}
use Rattle.mi_undo.specs.Keeps.{IsFree, IsOpen}
use Rattle.mi_undo.specs.Steps.{Seals}
use Rattle.mi_undo.specs.Begins.{Begins}
use Rattle.mi_undo.specs.Room.{NeverShort}
use Rattle.mi_undo.specs.Area.{notes_in, AreBelow}
use Rattle.mi_undo.specs.declared.kept.Place.{Place}
use Rattle.mi_undo.specs.Answers.{IsFreeUnlessRose, Opens}
use Rattle.mi_undo.specs.declared.kept.Kept.{Kept}
use Rattle.mi_undo.specs.declared.fault.OpFault.{OpFault}
use Rattle.mi_undo.specs.declared.fault.OpFault.TheVariants as op
use Rattle.mi_undo.proofs.FaultLemmas.{at_err}
use Rattle.mi_undo.proofs.StepLemmas.{size-new}
use Rattle.mi_undo.proofs.StandsLemmas.{stands_itself, clean_same}
use Rattle.mi_undo.proofs.NameLemmas.{marker_not_gate}
use Rattle.mi_undo.proofs.ClearLemmas.{noted_unmarked, noted_ungated}
use Rattle.mi_undo.proofs.RecoverLemmas.{nothing_noted}
use Rattle.mi_undo.proofs.AreaRoom.{begun_takes}
use Rattle.mi_undo.proofs.NoteLemmas.{image_stands, shut_gate, begin_robust, begin_stands, begin_open}
use Rattle.mi_undo.proofs.OnlyLemmas.{open_from, only_free}
use Rattle.mi_undo.proofs.OutsideLemmas.{marker_step}

pub not_begun : {T E : Type 0} (s : State) (r : Result T E) → IsFree s → IsErr r → Begins s s r
not_begun s r free fails = record {
  goes = started s (StandsFor s.held);
  leaves = λ d image. subst (λ (m : Map). StandsFor s.held m) (sym (clean_same s s.held refl free.clean d image)) (stands_itself s.held free.nothing_inside);
  outside = refl;
  ok = at_err _ r fails;
  unnoted = started s (λ d. noted d ≡ Ok []);
  takes = at_err _ r fails;
}

-- no entry is behind the marker
begin_unnoted : (s : State) → IsFree s → (d : Map) → ImagesOf marker s d → noted d ≡ Ok []
begin_unnoted s free d image =
    elim (is_one (get d marker)) as (λ b. is_one (get d marker) ≡ b → noted d ≡ Ok []) [
      | true ↦ λ marked. noted_ungated d marked (λ j at below. shut_gate _ (image.agrees (gate_name j) (⊎_elim (free.clean (gate_name j)) (λ e. marker_not_gate j (sym e))) ∙ free.nothing_inside (gate_name j) refl))
      | false ↦ λ shut. noted_unmarked d shut
    ] refl

-- meanwhile recovery has room
pub begin_room : (s t : State) → GoesOn s t (λ d. noted d ≡ Ok []) → GoesOn s t (NeverShort s.capacity)
begin_room s t goes = weaker s t (λ d. noted d ≡ Ok []) (NeverShort s.capacity) (nothing_noted s.capacity) goes

pub is_begun : {T E U G : Type 0} (s t : State) (name : List ℕ) (r : Result T E) (w : Result U G) → IsFree s → name ≡ marker → Seals name (1 ∷ []) s t w → (OnOk w ((t.held ≡ insert s.held marker (1 ∷ [])) × NothingDirty t) → OnOk r ((t.held ≡ insert s.held marker (1 ∷ [])) × NothingDirty t)) → Begins s t r
is_begun s t name r w free is by_name then =
    let seals = subst (λ (n : List ℕ). Seals n (1 ∷ []) s t w) is by_name in
    record {
      goes = weaker s t (ImagesOf marker s) (StandsFor s.held) (image_stands s s.held [] marker (begin_robust s free)) seals.only.goes;
      leaves = λ d image. begin_stands s t free seals.only.others seals.only.dirty d image.agrees;
      outside = marker_step s.held t.held marker refl seals.only.others;
      ok = on_ok_weaker r (λ ok. open_from t s.held [] (begin_open s t free ok.0 ok.1) (only_free s t.held free seals.only.others)) (then seals.ok);
      unnoted = weaker s t (ImagesOf marker s) (λ d. noted d ≡ Ok []) (begin_unnoted s free) seals.only.goes;
      takes = on_ok_weaker r (λ ok. begun_takes s t free ok.0 ok.1) (then seals.ok);
    }

free_stays : (s t : State) → IsFree s → Stays s t → IsFree t
free_stays s t free stays = record { nothing_inside = λ q inside. ap (λ (m : Map). get m q) stays.held ∙ free.nothing_inside q inside; clean = λ q now. free.clean q (stays.dirty q now) }

-- with no fault nothing has changed
pub free_unless : (s t : State) (e : OpFault) → IsFree s → (e ≡ op.Fault → Rose s t) → ((e ≡ op.NoMemory) ⊎ (e ≡ op.Full) → Stays s t) → IsFreeUnlessRose s t
free_unless s t op.NoMemory free rose stays = inl (free_stays s t free (stays (inl refl)))
free_unless s t op.Full free rose stays = inl (free_stays s t free (stays (inr refl)))
free_unless s t op.Fault free rose stays = inr (rose refl)

begin_size : (s : State) (name : List ℕ) → name ≡ marker → IsFree s → size (insert s.held name (1 ∷ [])) ≡ size s.held + 4
begin_size s name is free = ap (λ (x : List ℕ). size (insert s.held x (1 ∷ []))) is ∙ size-new s.held marker (1 ∷ []) (free.nothing_inside marker refl)

pub begin_fits : (s : State) (name : List ℕ) → name ≡ marker → IsFree s → Fits s.capacity (size (insert s.held name (1 ∷ []))) → Fits s.capacity (size s.held + 4)
begin_fits s name is free fits = subst (λ (n : ℕ). Fits s.capacity n) (begin_size s name is free) fits

pub begin_sum : (s : State) (name : List ℕ) → name ≡ marker → IsFree s → Exceeds s.capacity (size (insert s.held name (1 ∷ []))) → Exceeds s.capacity (size s.held + 4)
begin_sum s name is free over = subst (λ (n : ℕ). Exceeds s.capacity n) (begin_size s name is free) over

pub opens : (s t : State) (kept : Kept) → GoesOn s t (StandsFor s.held) → IsOpen t s.held [] → outside t.held ≡ outside s.held → kept.marker ≡ marker → kept.area.items ≡ [] → kept.entries ≡ 0 → kept.places.items ≡ [] → Opens s t kept
unfolding area_names
opens s t kept goes o out is_marker area entries places = record {
  goes = goes;
  works = record {
    parts = [];
    is_open = o;
    placed = ap (notes_in t.held) places;
    numbers = subst (λ (l : List Place). AreBelow 0 l) (sym places) tt;
    entries = entries;
    area = area;
    marker = is_marker;
  };
  outside = out;
}
