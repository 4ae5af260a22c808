use Rattle.std.proofs.Common.{inr}
use Rattle.mi_image.proofs.LookupLemmas.{no_value}
use Rattle.mi_image.proofs.names.value_name.Goals as goal

pub returns-then-root-gt3 : goal.returns-then-root-gt3
returns-then-root-gt3 c = inr (no_value c.args.root c.args.key.now c.args.name.now c.if-root-gt3.true)
