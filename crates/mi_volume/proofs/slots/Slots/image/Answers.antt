use Rattle.std.proofs.Common.{List, ℕ, Option, sym, ap, subst, ◌∙◌}
use Rattle.std.specs.List.Sorted.{IsStrictlySortedBy}
use Rattle.mi_text.specs.Maps.{Name, name_cmp}
use Rattle.mi_volume.specs.Kept.{Kept, imaged}
use Rattle.mi_volume.specs.Notes.{notes_of}
use Rattle.mi_volume.specs.Slots.{left_by, now_of, notes_at}
use Rattle.mi_volume.specs.declared.before.Slot.{Slot}
use Rattle.mi_volume.proofs.ImageLemmas.{Copying, copying_ends, copying_goes_on, copying_starts}
use Rattle.mi_volume.proofs.NoteLemmas.{keys_of-notes_at}
use Rattle.mi_volume.proofs.slots.Slots.image.Goals as goal

pub loop-name-init : goal.loop-name-init
loop-name-init c =
    let syncs = c.self.inside.before.syncs in
    let notes = notes_of c.self.inside.before in
    let gives = c.into_iter-name-iterator.ensures.into_iter_gives in
    let sorted = subst (λ (ks : List Name). IsStrictlySortedBy name_cmp ks) (sym (keys_of-notes_at syncs c.self.inside.before.slots.entries)) gives.5 in
    subst (λ (es : List (Name × Slot)). Copying c.args.choice c.self.inside.held.entries notes (notes_at syncs es) c.new-image.result) (sym gives.0)
    (copying_starts c.args.choice c.self.inside.held.entries notes c.new-image.result sorted c.new-image.ensures)

pub loop-name-preserved : goal.loop-name-preserved
loop-name-preserved c =
    let syncs = c.self.inside.before.syncs in
    let notes = notes_of c.self.inside.before in
    let rest = notes_at syncs c.next.new.self in
    let here = subst (λ (es : List (Name × Slot)). Copying c.args.choice c.self.inside.held.entries notes (notes_at syncs es) c.loop-name.image) c.in-Some.ensures.steps c.loop-name.invariant in
    let note = now_of syncs c.in-Some.slot.now in
    let left = c.in_ok-left.ensures ∙ ap (λ (o : Option (List ℕ)). left_by c.args.choice o note) c.get.ensures.value in
    subst (λ (k : Kept). Copying c.args.choice c.self.inside.held.entries notes rest k) (sym c.in_ok-keep.ensures)
    (copying_goes_on c.args.choice c.self.inside.held.entries notes rest c.in-Some.name.now note c.loop-name.image c.in_ok-left.left here left)

pub returns : goal.returns
returns c =
    let syncs = c.self.inside.before.syncs in
    copying_ends c.args.choice c.self.inside.held.entries (notes_of c.self.inside.before) (notes_at syncs c.loop-name.name-iterator) c.loop-name.image c.self.invariant c.loop-name.invariant (ap (notes_at syncs) c.in-None.ensures.steps.0)
    ∙ ap (λ (k : Kept). imaged c.args.choice k) c.self.view_is
