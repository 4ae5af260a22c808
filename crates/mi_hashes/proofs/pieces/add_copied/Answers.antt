use Rattle.std.proofs.Common.{◌≡◌, List, ℕ, length, take, drop, sym, ap, ◌∙◌, arith}
use Rattle.std.specs.FinMap.{get}
use Rattle.mi_text.proofs.PieceLemmas.{take_own}
use Rattle.mi_source.specs.Paths.{Files, bytes_or_none}
use Rattle.mi_hashes.proofs.PieceLemmas.{holds_more}
use Rattle.mi_hashes.proofs.pieces.add_copied.Goals as goal

pub loop-at-preserved : goal.loop-at-preserved
loop-at-preserved g c =
    let files = g.S.Source.files in
    let so_far = c.loop-at.invariant in
    let read = c.in_ok-bytes.ensures in
    let whole = bytes_or_none (get (files c.args.src.now) c.args.path.now) in
    let want = c.min-want.result in
    let n = c.len.result in
    let counts = so_far.counts in
    record {
      high = omega (arith, c.len.ensures, read.short, c.min-want.ensures, c.loop-at-test.true);
      adds = λ told m holds.
          let gave : c.in_ok-bytes.bytes ≡ take want (drop c.loop-at.at whole) = read.value told ∙ ap (λ (f : Files). take want (drop c.loop-at.at (bytes_or_none (get f c.args.path.now)))) so_far.stays in
          let is : c.as_slice.result.now ≡ take n (drop c.loop-at.at whole) = c.as_slice.ensures ∙ gave ∙ sym (take_own want (drop c.loop-at.at whole)) ∙ ap (λ (l : List ℕ). take (length l) (drop c.loop-at.at whole)) (sym gave) ∙ ap (λ (k : ℕ). take k (drop c.loop-at.at whole)) (sym c.len.ensures) in
          holds_more m whole c.as_slice.result.now c.loop-at.hasher c.update.new.self 0 c.loop-at.at n (omega arith) is c.update.ensures (so_far.adds told m holds);
      stays = read.stays ∙ so_far.stays;
      counts = omega (arith, counts, read.counts);
    }
