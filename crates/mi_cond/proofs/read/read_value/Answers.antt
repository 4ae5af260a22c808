use Rattle.std.proofs.Common.{◌∙◌, sym, ap, arith}
use Rattle.mi_cond.specs.Steps.{depth_at}
use Rattle.mi_cond.specs.States.{state_of}
use Rattle.mi_cond.proofs.Values.{depth_same}
use Rattle.mi_cond.proofs.ReadLaws.{reads_first_value, ended_read}
use Rattle.mi_cond.proofs.read.read_value.Goals as goal

pub loop-at-init : goal.loop-at-init
loop-at-init g c = reads_first_value (g.E.Env.lookups c.args.env.now) c.args.text.now (state_of c.new-reader.result) c.new-reader.ensures

pub read_front-requires-clause-deep : goal.read_front-requires-clause-deep
read_front-requires-clause-deep g c =
    let here = c.loop-at.invariant in
    let low = here.from.deep in
    omega (arith, depth_same (g.E.Env.lookups c.args.env.now) here.state, low, ap depth_at here.is)

pub returns-in-Some : goal.returns-in-Some
returns-in-Some g c = ended_read (g.E.Env.lookups c.args.env.now) c.args.text.now c.loop-at.at (state_of c.loop-at.reader) c.in-Some.holds (omega arith) c.loop-at.invariant (sym c.end.ensures ∙ c.in-Some.is)
