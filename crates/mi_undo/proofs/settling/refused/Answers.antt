use Rattle.mi_undo.proofs.ShortLemmas.{place_at}
use Rattle.mi_undo.proofs.settling.refused.Goals as goal

pub returns-in_ok-name-in-Full-clause-full : goal.returns-in_ok-name-in-Full-clause-full
returns-in_ok-name-in-Full-clause-full c = (c.in-Full.is, place_at c.args.places.now c.args.stuck.at c.index-places-stuck.result c.in_ok-name-in-Full.name (c.requires c.in-Full.is) c.in_ok-name-in-Full.ensures)
