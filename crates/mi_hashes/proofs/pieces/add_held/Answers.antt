use Rattle.std.proofs.Common.{◌≡◌, List, ℕ, length, take, drop, sym, ap, ◌∙◌, arith}
use Rattle.std.specs.FinMap.{get}
use Rattle.mi_text.proofs.PieceLemmas.{take_own}
use Rattle.mi_volume.specs.Maps.{Map, bytes_or_none}
use Rattle.mi_volume.proofs.Moments.{passes, then_passes}
use Rattle.mi_image.proofs.LookLemmas.{looks_once, looks_then}
use Rattle.mi_hashes.proofs.PieceLemmas.{holds_more}
use Rattle.mi_hashes.proofs.pieces.add_held.Goals as goal

pub loop-at-preserved : goal.loop-at-preserved
loop-at-preserved g c =
    let state = g.V.Volume.state in
    let so_far = c.loop-at.invariant in
    let read = c.in_ok-bytes.ensures in
    let whole = bytes_or_none (get (state c.args.vol.now).held c.args.name.now) in
    let want = c.min-want.result in
    let n = c.len.result in
    let low = so_far.low in
    record {
      low = omega (arith, low);
      high = omega (arith, c.len.ensures, read.short, c.min-want.ensures, c.loop-at-test.true);
      adds = λ told m holds.
          let gave : c.in_ok-bytes.bytes ≡ take want (drop c.loop-at.at whole) = read.value told ∙ ap (λ (held : Map). take want (drop c.loop-at.at (bytes_or_none (get held c.args.name.now)))) (so_far.looks told).stays.held in
          let is : c.as_slice.result.now ≡ take n (drop c.loop-at.at whole) = c.as_slice.ensures ∙ gave ∙ sym (take_own want (drop c.loop-at.at whole)) ∙ ap (λ (l : List ℕ). take (length l) (drop c.loop-at.at whole)) (sym gave) ∙ ap (λ (k : ℕ). take k (drop c.loop-at.at whole)) (sym c.len.ensures) in
          holds_more m whole c.as_slice.result.now c.loop-at.hasher c.update.new.self c.args.at c.loop-at.at n low is c.update.ensures (so_far.adds told m holds);
      looks = λ told. looks_then (state c.args.vol.now) (state c.loop-at.vol) (state c.read.new.self) (so_far.looks told) (looks_once (state c.loop-at.vol) (state c.read.new.self) (read.stays told) (read.still told) read.moments);
      passes = then_passes (state c.args.vol.now) (state c.loop-at.vol) (state c.read.new.self) so_far.passes (passes (state c.loop-at.vol) (state c.read.new.self) _ read.moments);
    }
