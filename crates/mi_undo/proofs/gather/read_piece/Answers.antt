use Rattle.std.proofs.Common.{◌≡◌, ◌++◌, ◌-◌, List, ℕ, ap, ◌∙◌, length, take, drop, length-append, arith}
use Rattle.std.specs.FinMap.{get}
use Rattle.mi_text.proofs.PieceLemmas.{front_piece}
use Rattle.mi_volume.specs.Maps.{Map, bytes_or_none}
use Rattle.mi_volume.proofs.Moments.{passes, then_passes}
use Rattle.mi_undo.proofs.ReadLemmas.{look_then}
use Rattle.mi_undo.proofs.gather.read_piece.Goals as goal

pub loop-alloc-preserved : goal.loop-alloc-preserved
loop-alloc-preserved g c = record {
  front = λ told.
      let state = g.V.Volume.state in
      let whole = bytes_or_none (get (state c.args.vol.now).held c.args.name.now) in
      let at : c.in_ok-piece.piece ≡ take (c.args.len - c.len-in-loop-alloc-2.result) (drop (length c.loop-alloc.bytes) whole) =
      c.in_ok-piece.ensures.value told
      ∙ ap (λ (k : ℕ). take (c.args.len - c.len-in-loop-alloc-2.result) (drop k (bytes_or_none (get (state c.loop-alloc.vol).held c.args.name.now)))) c.len-in-loop-alloc.ensures
      ∙ ap (λ (held : Map). take (c.args.len - c.len-in-loop-alloc-2.result) (drop (length c.loop-alloc.bytes) (bytes_or_none (get held c.args.name.now)))) (c.loop-alloc.invariant.looks told).stays.held in
      front_piece c.loop-alloc.bytes c.extend.new.self whole (c.args.len - c.len-in-loop-alloc-2.result) (c.loop-alloc.invariant.front told)
      (c.in_ok-extend.ensures.ok ∙ ap (λ (piece : List ℕ). c.loop-alloc.bytes ++ piece) (c.as_slice.ensures ∙ at));
  short =
      let long : length c.extend.new.self ≡ length (c.loop-alloc.bytes ++ c.in_ok-piece.piece) = ap length (c.in_ok-extend.ensures.ok ∙ ap (λ (piece : List ℕ). c.loop-alloc.bytes ++ piece) c.as_slice.ensures) in
      omega (arith, long, length-append c.loop-alloc.bytes c.in_ok-piece.piece, c.in_ok-piece.ensures.short, c.len-in-loop-alloc-2.ensures, c.loop-alloc.invariant.short);
  looks = λ told. look_then _ _ _ (c.loop-alloc.invariant.looks told) (record { goes = c.in_ok-piece.ensures.moments; stays = c.in_ok-piece.ensures.stays told });
  passes = then_passes _ _ _ c.loop-alloc.invariant.passes (passes _ _ _ c.in_ok-piece.ensures.moments);
}
