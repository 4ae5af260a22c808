use Rattle.mi_base.proofs.KeyLemmas.{whole_parts}
use Rattle.mi_records.proofs.parts.has_whole_parts.Goals as goal

pub loop-byte-init : goal.loop-byte-init
loop-byte-init c = whole_parts c.args.text.now
