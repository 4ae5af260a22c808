use Rattle.mi_image.proofs.OverlayLemmas.{before_nothing}
use Rattle.mi_image.proofs.overlay.Overlay.new.Goals as goal

pub returns-clause-former : goal.returns-clause-former
returns-clause-former c = before_nothing c.args.image c.new.result c.new.ensures
