-- Calls that change some names.
use Rattle.std.proofs.Common.{◌≡◌, inl, inr, ⊎_elim, ℕ, List, refl, ap, ◌∙◌, ◌⊎◌}
use Rattle.std.specs.FinMap.{get}
use Rattle.mi_volume.specs.Maps.{Map, OthersStay}
use Rattle.mi_volume.specs.State.{State, GoesOn, Images, ImagesOf, OnlyDirties, Stays}
use Rattle.mi_volume.proofs.Moments.{started, joined, weaker}
use Rattle.mi_undo.specs.Steps.{Touches}

-- a map that agrees with what is held but at the dirty names and at these
abbrev pub AgreesBeside : (List ℕ → Type 0) → State → Map → Type 0
AgreesBeside names s d = (q : List ℕ) → ¬ (s.dirty q ⊎ names q) → get d q ≡ get s.held q

pub touches_start : (X : List ℕ → Type 0) (s : State) → Touches X s s
touches_start X s = record { goes = started s (AgreesBeside X s); others = λ q not_one. refl; dirty = λ q not_one now. now }

pub touches_then : (X : List ℕ → Type 0) (s t u : State) → Touches X s t → Touches X t u → Touches X s u
touches_then X s t u first second = record {
  goes = joined s t u (AgreesBeside X s) first.goes (weaker t u (AgreesBeside X t) (AgreesBeside X s) earlier second.goes);
  others = λ q not_one. second.others q not_one ∙ first.others q not_one;
  dirty = λ q not_one now. first.dirty q not_one (second.dirty q not_one now);
}
  where
    earlier : (d : Map) → AgreesBeside X t d → AgreesBeside X s d
    earlier d agrees q free = agrees q (⊎_elim (λ now. free (inl (first.dirty q (λ one. free (inr one)) now))) (λ one. free (inr one))) ∙ first.others q (λ one. free (inr one))

-- one of these names
pub touches_name : (X : List ℕ → Type 0) (s t : State) (x : List ℕ) → ((q : List ℕ) → q ≡ x → X q) → GoesOn s t (ImagesOf x s) → OthersStay x s.held t.held → OnlyDirties x s t → Touches X s t
touches_name X s t x among goes others dirty = record {
  goes = weaker s t (ImagesOf x s) (AgreesBeside X s) (λ d image q free. image.agrees q (⊎_elim (λ now. free (inl now)) (λ is. free (inr (among q is))))) goes;
  others = λ q not_one. others q (λ is. not_one (among q is));
  dirty = λ q not_one now. dirty q (λ is. not_one (among q is)) now;
}

pub touches_none : (X : List ℕ → Type 0) (s t : State) → GoesOn s t (Images s) → Stays s t → Touches X s t
touches_none X s t goes stays = record {
  goes = weaker s t (Images s) (AgreesBeside X s) (λ d image q free. image.agrees q (λ now. free (inl now))) goes;
  others = λ q not_one. ap (λ (m : Map). get m q) stays.held;
  dirty = λ q not_one now. stays.dirty q now;
}

pub touches_more : (X Y : List ℕ → Type 0) (s t : State) → ((q : List ℕ) → X q → Y q) → Touches X s t → Touches Y s t
touches_more X Y s t more touches = record {
  goes = weaker s t (AgreesBeside X s) (AgreesBeside Y s) (λ d agrees q free. agrees q (⊎_elim (λ now. free (inl now)) (λ one. free (inr (more q one))))) touches.goes;
  others = λ q not_one. touches.others q (λ one. not_one (more q one));
  dirty = λ q not_one now. touches.dirty q (λ one. not_one (more q one)) now;
}
