use Rattle.std.proofs.Common.{sym, ◌∙◌}
use Rattle.mi_idt.specs.Fields.{number_within}
use Rattle.mi_file_rows.proofs.RisingLemmas.{numbers_step, rising_none}
use Rattle.mi_file_rows.proofs.versions.numbers_in.Goals as goal

pub loop-part-init : goal.loop-part-init
loop-part-init c = c.new-numbers.ensures.empty ∙ sym rising_none

pub loop-part-preserved : goal.loop-part-preserved
loop-part-preserved c = numbers_step (number_within 65535) c.args.parts.now c.loop-part.part-index _ _ _ c.loop-part-test.true c.in_ok-add_number.ensures c.loop-part.invariant
