-- Calls that only look, one after the other.
use Rattle.std.proofs.Common.{ap, subst, ◌∙◌}
use Rattle.std.specs.FinMap.{get}
use Rattle.mi_volume.specs.Maps.{Map, Fits, size}
use Rattle.mi_volume.specs.State.{State, Images, GoesOn, Stays, StaysDirty}
use Rattle.mi_volume.proofs.Moments.{started, then_call}
use Rattle.mi_volume.proofs.ImageLaws.{stays_itself, stays_then, still_then}
use Rattle.mi_image.specs.Looks.{OnlyLooks}

pub looks_first : (s : State) → OnlyLooks s s
looks_first s = record { stays = stays_itself s; still = λ q dirty. dirty; moments = started s (Images s) }

pub looks_once : (old new : State) → Stays old new → StaysDirty old new → GoesOn old new (Images old) → OnlyLooks old new
looks_once old new stays still moments = record { stays = stays; still = still; moments = moments }

-- what a crash may leave after a look, it might have left before
same_images : (old mid : State) → OnlyLooks old mid → (d : Map) → Images mid d → Images old d
same_images old mid looks d image = record {
  agrees = λ q clean. image.agrees q (λ dirty. clean (looks.stays.dirty q dirty)) ∙ ap (λ (m : Map). get m q) looks.stays.held;
  fits = subst (λ c. Fits c (size d)) looks.moments.capacity image.fits;
}

pub looks_then : (old mid new : State) → OnlyLooks old mid → OnlyLooks mid new → OnlyLooks old new
looks_then old mid new first second = record {
  stays = stays_then old mid new first.stays second.stays;
  still = still_then old mid new first.still second.still;
  moments = then_call old mid new (Images old) (Images mid) first.moments second.moments (same_images old mid first);
}
