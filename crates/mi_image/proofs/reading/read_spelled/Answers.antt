use Rattle.std.proofs.Common.{◌≡◌, ◌≤◌, ℕ, List, length, take, sym, ap, ◌∙◌, arith}
use Rattle.std.specs.FinMap.{get}
use Rattle.std.proofs.lemmas.List.{length-take}
use Rattle.mi_text.proofs.PieceLemmas.{take_own}
use Rattle.mi_volume.specs.Maps.{Map, bytes_or_none}
use Rattle.mi_volume.proofs.Moments.{then_passes}
use Rattle.mi_image.proofs.LookLemmas.{looks_then}
use Rattle.mi_image.proofs.reading.read_spelled.Goals as goal

-- a front of so many bytes, or all, is a front of as many as it has, which aren't more
a_front : (bytes whole : List ℕ) (want : ℕ) → bytes ≡ take want whole → (bytes ≡ take (length bytes) whole) × (length bytes ≤ want)
a_front bytes whole want is =
    (is ∙ sym (ap (λ (b : List ℕ). take (length b) whole) is ∙ take_own want whole), omega (arith, ap length is, length-take want whole))

pub loop-want-preserved : goal.loop-want-preserved
loop-want-preserved g c =
    let state = g.V.Volume.state in
    let inv = c.loop-want.invariant in
    let call = c.in_ok-read_on-2.ensures in
    record {
      within = omega (arith, c.min-want-in-loop-want.ensures);
      front = λ told.
          let here = ap (λ (held : Map). bytes_or_none (get held c.args.name.now)) (inv.looks told).stays.held in
          let begun = a_front c.loop-want.bytes (bytes_or_none (get (state c.loop-want.vol).held c.args.name.now)) c.loop-want.want (inv.front told ∙ sym (ap (take c.loop-want.want) here)) in
          call.value told begun.0 (omega (arith, begun.1, c.saturating_mul.ensures, c.max.ensures, c.min-want-in-loop-want.ensures, c.loop-want-test.true)) ∙ ap (take c.min-want-in-loop-want.result) here;
      looks = λ told. looks_then (state c.args.vol.now) (state c.loop-want.vol) (state c.read_on-in-loop-want.new.vol) (inv.looks told) (call.looks told);
      passes = then_passes (state c.args.vol.now) (state c.loop-want.vol) (state c.read_on-in-loop-want.new.vol) inv.passes call.passes;
    }
