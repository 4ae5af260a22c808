-- Written out, so that an edit that turns it is refused at once (docs/GATE.md).
use Rattle.std.proofs.Common.{refl}
use Rattle.mi_base.proofs.decode.with_bytes.Goals as goal

pub returns : goal.returns
returns c = refl
