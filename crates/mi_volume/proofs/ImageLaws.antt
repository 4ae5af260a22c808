-- What the images of a volume are, for the layers above.
use Rattle.std.proofs.Common.{◌≡◌, ◌≢◌, inl, inr, ⊎_elim, List, ℕ, Result, Ok, Err, OnOk, refl, subst, ◌∙◌}
use Rattle.std.specs.FinMap.{get}
use Rattle.mi_text.proofs.MapLemmas.{same}
use Rattle.mi_volume.specs.Maps.{Map, OthersStay, Fits, size}
use Rattle.mi_volume.specs.State.{State, Images, ImagesOf, NothingDirty, OnlyDirties, Stays, StaysDirty}
use Rattle.mi_volume.specs.Calls.{Syncs}

-- an image holds what is held at each name that isn't dirty
pub image_agrees : (s : State) (d : Map) (q : List ℕ) → Images s d → ¬ s.dirty q → get d q ≡ get s.held q
image_agrees s d q image clean = image.agrees q clean

-- where nothing is dirty there is one image
pub one_image : (s : State) (d : Map) → NothingDirty s → Images s d → d ≡ s.held
one_image s d clean image = same d s.held (λ q. image.agrees q (clean q))

-- and so it is after a good sync
pub image_after_sync : {T E : Type 0} → (old new : State) (r : Result T E) (d : Map) → Syncs old new r → OnOk r (Images new d → d ≡ old.held)
image_after_sync old new (Ok x) d syncs = λ image. one_image new d syncs.ok image ∙ syncs.stays.held
image_after_sync old new (Err e) d syncs = tt

-- while one name changes, an image holds what is held at each other name that isn't dirty
pub image_while_changing : (s : State) (name : List ℕ) (d : Map) (q : List ℕ) → ImagesOf name s d → ¬ s.dirty q → q ≢ name → get d q ≡ get s.held q
image_while_changing s name d q image clean other = image.agrees q (λ either. ⊎_elim clean other either)

-- an image at any time of a call is one while its name changes
pub image_of_any : (s : State) (name : List ℕ) (d : Map) → Images s d → ImagesOf name s d
image_of_any s name d image = record { agrees = λ q clean. image.agrees q (λ dirty. clean (inl dirty)); fits = image.fits }

-- what a call leaves that changes one name at most
pub image_after_change : (old new : State) (name : List ℕ) (d : Map) → OthersStay name old.held new.held → OnlyDirties name old new → new.capacity ≡ old.capacity → Images new d → ImagesOf name old d
image_after_change old new name d others dirties capacity image = record {
  agrees = λ q clean. image.agrees q (λ dirty. clean (inl (dirties q (λ is. clean (inr is)) dirty))) ∙ others q (λ is. clean (inr is));
  fits = subst (λ c. Fits c (size d)) capacity image.fits;
}

-- a call that changes nothing, after another one
pub stays_itself : (s : State) → Stays s s
stays_itself s = record { held = refl; dirty = λ q dirty. dirty }

pub stays_then : (old mid new : State) → Stays old mid → Stays mid new → Stays old new
stays_then old mid new first second = record { held = second.held ∙ first.held; dirty = λ q dirty. first.dirty q (second.dirty q dirty) }

pub still_then : (old mid new : State) → StaysDirty old mid → StaysDirty mid new → StaysDirty old new
still_then old mid new first second q dirty = second q (first q dirty)
