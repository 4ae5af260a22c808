use Rattle.std.proofs.Common.{◌≡◌, ◌-◌, List, ℕ}
use Rattle.mi_volume.specs.State.{Passes}
use Rattle.mi_image.specs.Looks.{OnlyLooks}
use Rattle.mi_image.specs.Stated.{texts_end, Shows}
use Rattle.mi_image.proofs.stated.texts_end.Given as goal

-- the texts that are left end where all end
abbrev pub invariant-loop : goal.invariant-loop
invariant-loop g l =
    let state = g.V.Volume.state in
    record {
      shows : g.V.Volume.told → (whole : List ℕ) → Shows (state l.fn.vol) l.name l.fn.window whole → Shows (state l.vol) l.name l.window whole;
      value : g.V.Volume.told → (whole : List ℕ) → Shows (state l.fn.vol) l.name l.fn.window whole → texts_end whole l.at l.count ≡ texts_end whole l.end (l.count - l.counter);
      looks : g.V.Volume.told → OnlyLooks (state l.fn.vol) (state l.vol);
      passes : Passes (state l.fn.vol) (state l.vol);
    }
