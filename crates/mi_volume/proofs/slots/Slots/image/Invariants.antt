use Rattle.mi_volume.specs.Notes.{notes_of}
use Rattle.mi_volume.specs.Slots.{notes_at}
use Rattle.mi_volume.proofs.ImageLemmas.{Copying}
use Rattle.mi_volume.proofs.slots.Slots.image.Given as goal

abbrev pub invariant-loop-name : goal.invariant-loop-name
invariant-loop-name l = Copying l.choice l.self-inside.held.entries (notes_of l.self-inside.before) (notes_at l.self-inside.before.syncs l.name-iterator) l.image
