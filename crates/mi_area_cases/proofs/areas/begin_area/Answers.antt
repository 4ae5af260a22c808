use Rattle.std.proofs.Common.{arith}
use Rattle.mi_area_cases.proofs.areas.begin_area.Goals as goal

pub over-requires-clause-goes_on : goal.over-requires-clause-goes_on
over-requires-clause-goes_on g c = record {
  working = c.in-Ok.ensures.fresh.is_working;
  noted = λ q has. absurd (omega (arith, has.1));
  works = λ told. ((g.V.Volume.state c.args.vol.now).held, (c.in-Ok.ensures.opens told).works);
}
