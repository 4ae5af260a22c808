use Rattle.std.proofs.Common.{None}
use Rattle.mi_image.proofs.EffectLemmas.{over_set, there_taken}
use Rattle.mi_image.proofs.overlay.Overlay.take.Goals as goal

pub returns-clause-machine : goal.returns-clause-machine
returns-clause-machine c held files = over_set held files (c.args.self.now).1 (c.remove.new.self).1 c.args.name.now None c.in_ok-remove.ensures.ok

pub returns-clause-there : goal.returns-clause-there
returns-clause-there c held files = there_taken held files (c.args.self.now).1 (c.remove.new.self).1 c.args.name.now c.in_ok-remove.ensures.ok
