use Rattle.std.proofs.Common.{List, ℕ, Some, Option, ap, subst}
use Rattle.mi_volume.specs.Slots.{Sets}
use Rattle.mi_volume.proofs.SlotLemmas.{sets_through}
use Rattle.mi_volume.proofs.held.mark_held.Goals as goal

pub returns-clause-sets : goal.returns-clause-sets
returns-clause-sets c =
    subst (λ (o : Option (List ℕ)). Sets c.args.name.now o c.args.held.now.entries (c.get_mut.follows.lender c.set_byte.new.bytes).entries)
    (ap Some c.set_byte.ensures.set)
    (sets_through c.args.held.now (c.get_mut.follows.lender c.set_byte.new.bytes) c.args.name.now c.in-Some.bytes.now c.set_byte.new.bytes c.in-Some.ensures.value (c.get_mut.follows.holds c.set_byte.new.bytes))
