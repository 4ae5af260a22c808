use Rattle.std.proofs.Common.{arith}
use Rattle.mi_image.proofs.BufferLemmas.{value_kind_ascii}
use Rattle.mi_image.proofs.names.value_kind.Goals as goal

pub returns-clause-ascii : goal.returns-clause-ascii
returns-clause-ascii c =
    value_kind_ascii c.args.root c.digit.result c.digit-2.result c.digit-3.result c.digit-4.result c.requires
    (omega (arith, c.digit.ensures)) (omega (arith, c.digit-2.ensures)) (omega (arith, c.digit-3.ensures)) (omega (arith, c.digit-4.ensures))
