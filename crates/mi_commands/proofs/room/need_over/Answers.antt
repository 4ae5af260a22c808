use Rattle.std.proofs.Common.{◌≡◌, ℕ, List, refl, subst}
use Rattle.std.specs.FinMap.{empty}
use Rattle.std.specs.Prelude.{IfOk}
use Rattle.mi_text.specs.Maps.{Map}
use Rattle.mi_base.specs.Machine.{machine_of}
use Rattle.mi_model.specs.StatedSizes.{stated_cost}
use Rattle.mi_commands.specs.Room.{counted}
use Rattle.mi_commands.proofs.MachineLemmas.{scanned_spells, scanned_contents}
use Rattle.mi_commands.proofs.room.need_over.Goals as goal

pub returns-in-Ok-clause-ok : goal.returns-in-Ok-clause-ok
returns-in-Ok-clause-ok g c = λ v.
    let held = (g.V.Volume.state c.args.vol.now).held in
    let none : Map (List ℕ) = empty in
    let read = c.in-Ok.ensures.image v none in
    let spells = scanned_spells none held held c.in-Ok.image (machine_of held) (c.requires.free v).nothing_inside refl (λ m is. is) read in
    let there = scanned_contents none held held c.in-Ok.image (machine_of held) refl read in
    subst (λ (d : Map (List ℕ)). IfOk c.need_of.result (λ n. n ≡ counted (stated_cost d c.args.scripts.now))) spells (c.need_of.ensures.ok held none there)
