use Rattle.std.proofs.Common.{◌≡◌, ◌≤◌, drop}
use Rattle.mi_idt.specs.Fields.{within_on}
use Rattle.mi_rows.proofs.text.is_language.Given as goal

abbrev pub invariant-loop-digit : goal.invariant-loop-digit
invariant-loop-digit l = record { small : l.number ≤ 65535; same : within_on 65535 l.number (drop l.digit-index l.digit-items) ≡ within_on 65535 0 l.digit-items; whole : l.digit-items ≡ l.text }
