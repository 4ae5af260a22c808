use Rattle.std.proofs.Common.{◌≡◌, ◌-◌, ◌++◌, List, ℕ, ap, ◌∙◌, length, length-append, take, drop, arith}
use Rattle.std.specs.FinMap.{get}
use Rattle.mi_source.specs.Paths.{Files, bytes_or_none}
use Rattle.mi_text.proofs.PieceLemmas.{front_piece}
use Rattle.mi_runner.proofs.files.read_front.Goals as goal

pub loop-alloc-preserved : goal.loop-alloc-preserved
loop-alloc-preserved g c =
    let so_far = c.loop-alloc.invariant in
    let read = c.in_ok-piece.ensures in
    let more : c.extend.new.self ≡ c.loop-alloc.bytes ++ c.in_ok-piece.piece = c.in_ok-extend.ensures.ok ∙ ap (λ (piece : List ℕ). c.loop-alloc.bytes ++ piece) c.as_slice.ensures in
    record {
      front = λ told.
          let whole = bytes_or_none (get (g.S.Source.files c.args.src.now) c.args.path.now) in
          let n = c.args.want - c.len-in-loop-alloc-2.result in
          let at : c.in_ok-piece.piece ≡ take n (drop (length c.loop-alloc.bytes) whole) =
          read.value told ∙ ap (λ (k : ℕ). take n (drop k (bytes_or_none (get (g.S.Source.files c.loop-alloc.src) c.args.path.now)))) c.len-in-loop-alloc.ensures
          ∙ ap (λ (files : Files). take n (drop (length c.loop-alloc.bytes) (bytes_or_none (get files c.args.path.now)))) so_far.stays in
          front_piece c.loop-alloc.bytes c.extend.new.self whole n (so_far.front told) (more ∙ ap (λ (piece : List ℕ). c.loop-alloc.bytes ++ piece) at);
      short = let long = ap length more in omega (arith, long, length-append c.loop-alloc.bytes c.in_ok-piece.piece, read.short, so_far.short, c.len-in-loop-alloc.ensures, c.len-in-loop-alloc-2.ensures);
      stays = read.stays ∙ so_far.stays;
      counts = omega (arith, so_far.counts, read.counts);
    }
