-- Steps that only look at the volume.
use Rattle.std.proofs.Common.{refl, ◌∙◌}
use Rattle.mi_volume.specs.State.{State, Images}
use Rattle.mi_volume.proofs.Moments.{started, joined, weaker}
use Rattle.mi_undo.proofs.ClearLemmas.{image_stays}
use Rattle.mi_image.specs.Looks.{OnlyLooks}
use Rattle.mi_commands.specs.Looks.{Looks}

pub looks_none : (s : State) → Looks s s
looks_none s = record { stays = record { held = refl; dirty = λ q d. d }; still = λ q d. d; moments = started s (Images s) }

pub looks_then : (old mid new : State) → Looks old mid → Looks mid new → Looks old new
looks_then old mid new first second = record {
  stays = record { held = second.stays.held ∙ first.stays.held; dirty = λ q d. first.stays.dirty q (second.stays.dirty q d) };
  still = λ q d. second.still q (first.still q d);
  moments = joined old mid new (Images old) first.moments (weaker mid new (Images mid) (Images old) (image_stays old mid first.moments first.stays) second.moments);
}

-- in this crate's words
pub looks_so : (old new : State) → OnlyLooks old new → Looks old new
looks_so old new looks = record { stays = looks.stays; still = looks.still; moments = looks.moments }
