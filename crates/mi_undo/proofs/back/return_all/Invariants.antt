use Rattle.std.proofs.Common.{◌≡◌, ℕ, List, [], true, Option, Some, None, take}
use Rattle.std.specs.FinMap.{get}
use Rattle.mi_volume.specs.Maps.{Map}
use Rattle.mi_volume.specs.State.{Passes}
use Rattle.mi_undo.specs.Notes.{Note, note_of, are_new}
use Rattle.mi_undo.specs.Keeps.{Keeps}
use Rattle.mi_undo.specs.Area.{notes_in}
use Rattle.mi_undo.specs.Steps.{IsWithin}
use Rattle.mi_undo.specs.Back.{Returning}
use Rattle.mi_undo.proofs.back.return_all.Given as goal

abbrev pub invariant-loop-at : goal.invariant-loop-at
invariant-loop-at g l = record {
  passes : Passes (g.V.Volume.state l.initial.vol) (g.V.Volume.state l.vol);
  returning : g.V.Volume.told → (F : Map) (ns : List Note) → notes_in (g.V.Volume.state l.initial.vol).held l.places ≡ ns → Keeps (g.V.Volume.state l.initial.vol) F ns → are_new [] ns ≡ true
      → ((q : List ℕ) (w : Option (List ℕ)) → note_of ns q ≡ Some w → get (g.V.Volume.state l.initial.vol).held q ≡ None)
      → Returning (g.V.Volume.state l.initial.vol) (g.V.Volume.state l.vol) F ns (notes_in (g.V.Volume.state l.initial.vol).held (take l.at l.places));
  fits : g.V.Volume.told → (F : Map) (ns : List Note) → notes_in (g.V.Volume.state l.initial.vol).held l.places ≡ ns → Keeps (g.V.Volume.state l.initial.vol) F ns → are_new [] ns ≡ true
      → ((q : List ℕ) (w : Option (List ℕ)) → note_of ns q ≡ Some w → get (g.V.Volume.state l.initial.vol).held q ≡ None)
      → IsWithin (g.V.Volume.state l.initial.vol) → IsWithin (g.V.Volume.state l.vol);
}
