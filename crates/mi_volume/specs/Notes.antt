-- What the slots of a volume in memory note now.
use Rattle.std.specs.Prelude.{List}
use Rattle.mi_text.specs.Maps.{Name}
use Rattle.mi_volume.specs.Slots.{notes_at}
use Rattle.mi_volume.specs.declared.before.Before.{Before}
use Rattle.mi_volume.specs.declared.notes.Notes.{Notes}

abbrev pub notes_of : Notes → List (Name × Before)
notes_of n = notes_at n.syncs n.slots.entries
