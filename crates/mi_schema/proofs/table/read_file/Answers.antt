use Rattle.std.proofs.Common.{◌≡◌, ◌++◌, List, ℕ, ap, ◌∙◌, length, take, drop, arith}
use Rattle.std.specs.FinMap.{get}
use Rattle.mi_source.specs.Paths.{Files, bytes_or_none}
use Rattle.mi_text.proofs.PieceLemmas.{front_piece}
use Rattle.mi_schema.proofs.table.read_file.Goals as goal

pub loop-alloc-preserved : goal.loop-alloc-preserved
loop-alloc-preserved g c = record {
  front = λ told.
      let whole = bytes_or_none (get (g.S.Source.files c.args.src.now) c.args.path.now) in
      let at : c.in_ok-piece.piece ≡ take c.min-want.result (drop (length c.loop-alloc.bytes) whole) =
      c.in_ok-piece.ensures.value told ∙ ap (λ (n : ℕ). take c.min-want.result (drop n (bytes_or_none (get (g.S.Source.files c.loop-alloc.src) c.args.path.now)))) c.len-in-loop-alloc-2.ensures
      ∙ ap (λ (files : Files). take c.min-want.result (drop (length c.loop-alloc.bytes) (bytes_or_none (get files c.args.path.now)))) c.loop-alloc.invariant.same in
      front_piece c.loop-alloc.bytes c.extend.new.self whole c.min-want.result (c.loop-alloc.invariant.front told)
      (c.in_ok-extend.ensures.ok ∙ ap (λ (piece : List ℕ). c.loop-alloc.bytes ++ piece) (c.as_slice.ensures ∙ at));
  same = c.in_ok-piece.ensures.stays ∙ c.loop-alloc.invariant.same;
  counts = omega (arith, c.loop-alloc.invariant.counts, c.in_ok-piece.ensures.counts);
}
