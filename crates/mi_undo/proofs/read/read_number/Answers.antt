use Rattle.std.proofs.Common.{Ok, refl}
use Rattle.mi_undo.specs.Area.{notes_in}
use Rattle.mi_undo.proofs.ReadLemmas.{turn_shut, turn_bad, turn_more, adds_same}
use Rattle.mi_undo.proofs.read.read_number.Goals as goal

pub returns-then-not-branch-clause-turns : goal.returns-then-not-branch-clause-turns
returns-then-not-branch-clause-turns g c = λ told. turn_shut (g.V.Volume.state c.args.vol.now).held c.args.number (notes_in (g.V.Volume.state c.args.vol.now).held c.args.places.now.items) _ _ c.requires.few c.in-Ok.ensures (c.in_ok-open.ensures.value told) c.if-not-branch.true

pub returns-in-Ok-false-clause-turns : goal.returns-in-Ok-false-clause-turns
returns-in-Ok-false-clause-turns g c = λ told.
    let h = (g.V.Volume.state c.args.vol.now).held in let old = c.args.places.now.items in let new = c.read_entry.new.places.items in
    let adds = adds_same h (g.V.Volume.state c.is_open-open.new.vol).held c.in-Ok-entry_of.entry old new (Ok c.in-Ok-false.field-0) (c.in_ok-open.ensures.looks told).stays.held (c.in-Ok-false.ensures.adds told) in
    turn_bad h c.args.number (notes_in h old) _ _ c.requires.few c.in-Ok.ensures (c.in_ok-open.ensures.value told) h (notes_in h new) c.in-Ok-entry_of.entry _ c.in-Ok-entry_of.ensures c.if-not-branch.false refl adds c.in-Ok-false.field-0-test

pub returns-in-Ok-true-clause-turns : goal.returns-in-Ok-true-clause-turns
returns-in-Ok-true-clause-turns g c = λ told.
    let h = (g.V.Volume.state c.args.vol.now).held in let old = c.args.places.now.items in let new = c.read_entry.new.places.items in
    let adds = adds_same h (g.V.Volume.state c.is_open-open.new.vol).held c.in-Ok-entry_of.entry old new (Ok c.in-Ok-true.field-0) (c.in_ok-open.ensures.looks told).stays.held (c.in-Ok-true.ensures.adds told) in
    turn_more h c.args.number (notes_in h old) _ _ c.requires.few c.in-Ok.ensures (c.in_ok-open.ensures.value told) h (notes_in h new) c.in-Ok-entry_of.entry _ c.in-Ok-entry_of.ensures c.if-not-branch.false refl adds c.in-Ok-true.field-0-test
