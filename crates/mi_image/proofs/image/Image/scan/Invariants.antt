use Rattle.std.specs.Prelude.{IfSome}
use Rattle.mi_text.specs.Bytes.{AreBytes}
use Rattle.mi_text.specs.Fold.{IsNameLength}
use Rattle.mi_volume.specs.State.{Passes}
use Rattle.mi_image.specs.Looks.{OnlyLooks}
use Rattle.mi_image.specs.Scan.{ReadUpTo}
use Rattle.mi_image.proofs.RankLemmas.{left}
use Rattle.mi_image.proofs.image.Image.scan.Given as goal

abbrev pub invariant-loop-after : goal.invariant-loop-after
invariant-loop-after g l =
    let state = g.V.Volume.state in
    record {
      named : IfSome l.after (λ a. IsNameLength a × AreBytes a);
      read : g.V.Volume.told → ReadUpTo (state l.initial.vol).held l.after l.found;
      looks : g.V.Volume.told → OnlyLooks (state l.initial.vol) (state l.vol);
      passes : Passes (state l.initial.vol) (state l.vol);
    }

abbrev pub decreases-loop-after : goal.decreases-loop-after
decreases-loop-after g l = left l.after
