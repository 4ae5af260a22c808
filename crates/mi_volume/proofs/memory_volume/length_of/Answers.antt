use Rattle.mi_text.proofs.ByteLemmas.{from_index}
use Rattle.mi_volume.proofs.memory_volume.length_of.Goals as goal

pub returns-clause-bytes : goal.returns-clause-bytes
returns-clause-bytes c = from_index c.args.bytes.now (λ i. (c.type_inv.bytes i).fits)
