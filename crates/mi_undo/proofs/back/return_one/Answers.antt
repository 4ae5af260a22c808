use Rattle.std.proofs.Common.{ap}
use Rattle.mi_undo.specs.Names.{is_inside}
use Rattle.mi_undo.proofs.FaultLemmas.{at_err, memory_not_full}
use Rattle.mi_undo.proofs.StepLemmas.{only_start}
use Rattle.mi_undo.proofs.EntrySteps.{apart}
use Rattle.mi_undo.proofs.ReturnLemmas.{one_returned}
use Rattle.mi_undo.proofs.back.return_one.Goals as goal

pub returns-in_err-entry-clause-puts : goal.returns-in_err-entry-clause-puts
returns-in_err-entry-clause-puts g c = λ told out none. record {
  only = only_start (g.V.Volume.state c.args.vol.now) c.args.place.now.name;
  ok = at_err _ c.from_residual.result c.from_residual.ensures.0;
  full = λ full. absurd (memory_not_full c.from_residual.result c.from_residual.ensures.1 full);
  fits = λ within. at_err _ c.from_residual.result c.from_residual.ensures.0;
}

pub returns-clause-puts : goal.returns-clause-puts
returns-clause-puts g c = λ told out none.
    one_returned (g.V.Volume.state c.args.vol.now) (g.V.Volume.state c.return_bytes.new.vol) c.args.place.now.name c.in_ok-entry.entry c.args.place.now.entry c.args.place.now.old c.in-Some.span c.return_bytes.result
    c.in-Some.is c.in_ok-entry.ensures (c.return_bytes.ensures.puts told (apart c.in_ok-entry.entry c.args.place.now.name (ap is_inside c.in_ok-entry.ensures) out))
