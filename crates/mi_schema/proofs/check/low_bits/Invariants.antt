use Rattle.std.proofs.Common.{◌≡◌, ◌%◌, ◌<◌, drop}
use Rattle.mi_idt.specs.Fields.{number_on}
use Rattle.mi_schema.proofs.check.low_bits.Given as goal

abbrev pub invariant-loop-digit : goal.invariant-loop-digit
invariant-loop-digit l = (l.bits < 4) × (number_on l.bits (drop l.digit-index l.digit-items) % 4 ≡ number_on 0 l.digits % 4)
