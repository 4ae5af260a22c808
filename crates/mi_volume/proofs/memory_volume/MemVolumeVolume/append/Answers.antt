use Rattle.mi_volume.specs.declared.call.CallKind.TheVariants.{Append}
use Rattle.mi_volume.proofs.StateLemmas.{writes, write_goes, write_rose, exceeds_some}
use Rattle.mi_volume.proofs.memory_volume.MemVolumeVolume.append.Goals as goal

pub returns-clause-writes : goal.returns-clause-writes
returns-clause-writes c = writes c.write.result c.args.self.now c.write.new.self Append c.args.name.now c.args.bytes.now c.write.ensures.leaves c.write.ensures.exceeds c.write.ensures.fits

pub returns-clause-moments : goal.returns-clause-moments
returns-clause-moments c = write_goes c.write.result c.args.self.now c.write.new.self Append c.args.name.now c.args.bytes.now c.write.ensures.leaves c.write.ensures.later

pub returns-clause-failed : goal.returns-clause-failed
returns-clause-failed c = write_rose c.write.result c.args.self.now c.write.new.self Append c.args.name.now c.args.bytes.now c.write.ensures.leaves

pub returns-clause-full : goal.returns-clause-full
returns-clause-full c = λ full. exceeds_some c.args.self.now.capacity _ (c.write.ensures.exceeds full)
