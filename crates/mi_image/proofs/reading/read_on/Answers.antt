use Rattle.std.proofs.Common.{◌≡◌, ◌++◌, List, ℕ, ap, ◌∙◌, length, take, drop, length-append, arith}
use Rattle.std.specs.FinMap.{get}
use Rattle.mi_text.proofs.PieceLemmas.{front_piece}
use Rattle.mi_volume.specs.Maps.{Map, bytes_or_none}
use Rattle.mi_volume.proofs.Moments.{passes, then_passes}
use Rattle.mi_image.proofs.LookLemmas.{looks_once, looks_then}
use Rattle.mi_image.proofs.reading.read_on.Goals as goal

pub loop-alloc-preserved : goal.loop-alloc-preserved
loop-alloc-preserved g c =
    let state = g.V.Volume.state in
    let inv = c.loop-alloc.invariant in
    record {
      front = λ told begun.
          let whole = bytes_or_none (get (state c.args.vol.now).held c.args.name.now) in
          let at : c.in_ok-piece.piece ≡ take c.min-asked.result (drop (length c.loop-alloc.bytes) whole) =
          c.in_ok-piece.ensures.value told
          ∙ ap (λ (n : ℕ). take c.min-asked.result (drop n (bytes_or_none (get (state c.loop-alloc.vol).held c.args.name.now)))) c.len-in-loop-alloc-2.ensures
          ∙ ap (λ (held : Map). take c.min-asked.result (drop (length c.loop-alloc.bytes) (bytes_or_none (get held c.args.name.now)))) (inv.looks told).stays.held in
          front_piece c.loop-alloc.bytes c.append.new.bytes whole c.min-asked.result (inv.front told begun) (c.in_ok-append.ensures.ok ∙ ap (λ (piece : List ℕ). c.loop-alloc.bytes ++ piece) at);
      short = λ low.
          let long : length c.append.new.bytes ≡ length (c.loop-alloc.bytes ++ c.in_ok-piece.piece) = ap length c.in_ok-append.ensures.ok in
          omega (arith, long, length-append c.loop-alloc.bytes c.in_ok-piece.piece, c.in_ok-piece.ensures.short, c.min-asked.ensures, c.len-in-loop-alloc.ensures, inv.short low);
      looks = λ told. looks_then (state c.args.vol.now) (state c.loop-alloc.vol) (state c.read.new.self) (inv.looks told) (looks_once (state c.loop-alloc.vol) (state c.read.new.self) (c.in_ok-piece.ensures.stays told) (c.in_ok-piece.ensures.still told) c.in_ok-piece.ensures.moments);
      passes = then_passes (state c.args.vol.now) (state c.loop-alloc.vol) (state c.read.new.self) inv.passes (passes (state c.loop-alloc.vol) (state c.read.new.self) _ c.in_ok-piece.ensures.moments);
    }
