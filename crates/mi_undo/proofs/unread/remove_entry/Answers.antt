use Rattle.std.proofs.Common.{sym, ap, ◌∙◌, arith}
use Rattle.mi_undo.proofs.NameLemmas.{same_entry}
use Rattle.std.proofs.lemmas.Result.{on_ok_weaker}
use Rattle.std.specs.FinMap.{get}
use Rattle.mi_volume.specs.Maps.{Map}
use Rattle.mi_volume.proofs.MapLemmas.{get-remove_same}
use Rattle.mi_undo.proofs.SpareLemmas.{spares_removed, still_none}
use Rattle.mi_undo.proofs.unread.remove_entry.Goals as goal

pub returns-clause-spares : goal.returns-clause-spares
returns-clause-spares g c = λ told F ns spare.
    let removes = c.remove.ensures.removes told in
    spares_removed (g.V.Volume.state c.args.vol.now) (g.V.Volume.state c.remove.new.self) F ns c.args.entries spare c.in-Some.number c.if-number-entries.false c.in-Some.ensures.some.0 c.args.name.now c.in-Some.ensures.some.1
    c.remove.ensures.moments removes.others removes.dirty

pub returns-clause-away : goal.returns-clause-away
returns-clause-away g c = λ told.
    on_ok_weaker c.remove.result (λ held unread. ap (λ (m : Map). get m c.args.name.now) held ∙ get-remove_same (g.V.Volume.state c.args.vol.now).held c.args.name.now) (c.remove.ensures.removes told).ok

pub returns-clause-still : goal.returns-clause-still
returns-clause-still g c = λ told.
    on_ok_weaker c.remove.result (λ held q none. ap (λ (m : Map). get m q) held ∙ still_none (g.V.Volume.state c.args.vol.now).held c.args.name.now q none) (c.remove.ensures.removes told).ok

pub returns-then-number-entries-clause-away : goal.returns-then-number-entries-clause-away
returns-then-number-entries-clause-away g c = λ told unread.
    let number = same_entry c.in-Some.number unread.0 c.in-Some.ensures.some.0 unread.1.1.0 (sym c.in-Some.ensures.some.1 ∙ unread.1.1.1) in
    absurd (omega (arith, number, unread.1.0, c.if-number-entries.true))
