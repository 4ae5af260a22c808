use Rattle.std.proofs.Common.{refl}
use Rattle.mi_undo.specs.Names.{digits}
use Rattle.mi_undo.proofs.names.numbered.Goals as goal

pub returns : goal.returns
unfolding digits
returns c = refl
