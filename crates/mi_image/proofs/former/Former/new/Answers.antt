use Rattle.mi_image.proofs.OverlayLemmas.{none_stood}
use Rattle.mi_image.proofs.former.Former.new.Goals as goal

pub returns : goal.returns
returns c = none_stood c.new.result.entries c.new.ensures.empty
