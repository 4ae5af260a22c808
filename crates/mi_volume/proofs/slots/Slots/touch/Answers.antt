use Rattle.mi_volume.specs.Notes.{notes_of}
use Rattle.mi_volume.proofs.KeptLemmas.{touched, touched_slots, untouched}
use Rattle.mi_volume.proofs.slots.Slots.touch.Goals as goal

pub invariant_of-self : goal.invariant_of-self
invariant_of-self c = touched_slots c.self.inside.held.entries (notes_of c.self.inside.before) (notes_of c.note.new.self) c.args.name.now c.contains_key.result c.self.invariant c.contains_key.ensures c.if-contains_key.true c.note.ensures

pub returns-then-contains_key : goal.returns-then-contains_key
returns-then-contains_key c = touched c.self.inside.held.entries (notes_of c.self.inside.before) (notes_of c.note.new.self) c.args.self.now c.args.name.now c.contains_key.result c.self.invariant c.self.view_is c.contains_key.ensures c.if-contains_key.true c.note.ensures

pub returns-else-contains_key : goal.returns-else-contains_key
returns-else-contains_key c = untouched c.self.inside.held.entries (notes_of c.self.inside.before) c.args.self.now c.args.name.now c.contains_key.result c.self.view_is c.contains_key.ensures c.if-contains_key.false
