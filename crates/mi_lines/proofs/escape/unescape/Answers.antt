use Rattle.std.proofs.lemmas.List.{nil_from_length}
use Rattle.mi_lines.proofs.EscapeLemmas.{one_more, all_read}
use Rattle.mi_lines.proofs.escape.unescape.Goals as goal

pub loop-first-preserved : goal.loop-first-preserved
loop-first-preserved c = one_more c.args.text.now c.loop-first.bytes.items c.loop-first.left.now c.in-Some.rest.now c.first_byte-byte.result.1.now c.push.new.self.items c.in-Some.first.now c.first_byte-byte.result.0 c.loop-first.invariant c.in-Some.ensures.cases.0 c.first_byte-byte.ensures.splits c.in_ok-push.ensures.items

pub returns : goal.returns
returns c = all_read c.args.text.now c.loop-first.bytes.items c.loop-first.left.now c.loop-first.invariant (nil_from_length c.loop-first.left.now c.in_default.ensures.cases)
