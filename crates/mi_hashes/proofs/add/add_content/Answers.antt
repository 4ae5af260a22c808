use Rattle.mi_hashes.proofs.FileLemmas.{own_bytes, held_bytes, holds_with}
use Rattle.mi_hashes.proofs.add.add_content.Goals as goal

pub returns-in_ok-add_last-in-Own-clause-adds : goal.returns-in_ok-add_last-in-Own-clause-adds
returns-in_ok-add_last-in-Own-clause-adds g c = λ told source long m holds.
    let held = (g.V.Volume.state c.args.vol.now).held in
    let files = g.S.Source.files c.args.src.now in
    holds_with _ m _ _ (own_bytes held files c.args.own.now c.args.content.now c.args.stated c.in-Own.is long) (c.in_ok-add_last-in-Own.ensures.adds told m holds)

pub returns-in_ok-add_last-in-Held-clause-adds : goal.returns-in_ok-add_last-in-Held-clause-adds
returns-in_ok-add_last-in-Held-clause-adds g c = λ told source long m holds.
    let held = (g.V.Volume.state c.args.vol.now).held in
    let files = g.S.Source.files c.args.src.now in
    holds_with _ m _ _ (held_bytes held files c.args.own.now c.in-Held.name c.args.content.now c.args.stated c.in-Held.is long) (c.in_ok-add_last-in-Held.ensures.adds told m holds)
