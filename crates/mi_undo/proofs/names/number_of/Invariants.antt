use Rattle.std.proofs.Common.{◌≡◌, ◌^◌, ◌<◌, take}
use Rattle.mi_undo.specs.Names.{digits}
use Rattle.mi_undo.proofs.names.number_of.Given as goal

abbrev pub invariant-loop-digit : goal.invariant-loop-digit
invariant-loop-digit l = record {
  is : take l.digit-index l.bytes ≡ digits l.digit-index l.number;
  small : l.number < 10 ^ l.digit-index;
}
