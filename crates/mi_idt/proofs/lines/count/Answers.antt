use Rattle.std.proofs.Common.{◌∙◌, length, ap, arith}
use Rattle.memchr.specs.Find.{is_byte}
use Rattle.memchr.proofs.lemmas.CallerLemmas.{length-places}
use Rattle.mi_idt.proofs.lines.count.Goals as goal

pub loop-init : goal.loop-init
loop-init c =
    let found = ap length c.into_iter-iterator.ensures.into_iter_gives in
    let marks = ap length c.memchr_iter-items.ensures.value ∙ length-places (is_byte c.args.mark) c.args.bytes.now in
    record { so_far = omega (arith, found, marks); within = omega (arith, found, c.memchr_iter-items.ensures.len) }
