use Rattle.mi_image.proofs.BufferLemmas.{key_kind_ascii}
use Rattle.mi_image.proofs.names.key_kind.Goals as goal

pub returns-clause-ascii : goal.returns-clause-ascii
returns-clause-ascii c = key_kind_ascii c.args.root c.requires
