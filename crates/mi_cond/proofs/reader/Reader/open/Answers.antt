use Rattle.std.proofs.Common.{arith}
use Rattle.mi_cond.proofs.Depths.{open_depth}
use Rattle.mi_cond.proofs.reader.Reader.open.Goals as goal

pub push-requires : goal.push-requires
push-requires c = (omega arith, omega (arith, open_depth c.args.self.now, c.requires))
