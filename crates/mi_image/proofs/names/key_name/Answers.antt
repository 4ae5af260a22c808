use Rattle.std.proofs.Common.{inr}
use Rattle.mi_image.proofs.LookupLemmas.{no_key}
use Rattle.mi_image.proofs.names.key_name.Goals as goal

pub returns-then-root-gt3 : goal.returns-then-root-gt3
returns-then-root-gt3 c = inr (no_key c.args.root c.args.key.now c.if-root-gt3.true)
