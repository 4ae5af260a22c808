use Rattle.std.proofs.Common.{◌≡◌, map, drop}
use Rattle.mi_model.specs.States.{named}
use Rattle.mi_seq.specs.Standards.{entry_as}
use Rattle.mi_seq.proofs.standard.find_in.Given as goal

abbrev pub invariant-loop-entry : goal.invariant-loop-entry
invariant-loop-entry l = named l.action (map entry_as l.entries) ≡ named l.action (map entry_as (drop l.entry-index l.entries))
