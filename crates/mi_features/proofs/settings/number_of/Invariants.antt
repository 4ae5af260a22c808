use Rattle.std.proofs.Common.{◌≡◌, ◌≤◌, drop}
use Rattle.mi_idt.specs.Fields.{within_on}
use Rattle.mi_features.proofs.settings.number_of.Given as goal

abbrev pub invariant-loop-digit : goal.invariant-loop-digit
invariant-loop-digit l = record { small : l.number ≤ 32767; same : within_on 32767 l.number (drop l.digit-index l.digits) ≡ within_on 32767 0 l.digits }
