use Rattle.std.proofs.Common.{◌≡◌, List, ℕ, Some, ap, subst, ◌∙◌}
use Rattle.mi_text.specs.Maps.{Name}
use Rattle.mi_volume.specs.Kept.{Kept, changed}
use Rattle.mi_volume.specs.Slots.{Sets, at_name, kept_of, was}
use Rattle.mi_volume.specs.Notes.{notes_of}
use Rattle.mi_volume.proofs.SlotLemmas.{sets}
use Rattle.mi_volume.proofs.KeptLemmas.{made_view, changed_view, saved_was, made_slots, always_err}
use Rattle.mi_volume.proofs.slots.Slots.give.Goals as goal

pub returns-in_err-copy-clause-err : goal.returns-in_err-copy-clause-err
returns-in_err-copy-clause-err c =
    always_err c.from_residual-in_err-copy.result
    (made_view c.self.inside.held.entries (notes_of c.self.inside.before) (notes_of c.add.new.self) c.args.name.now c.in_ok-add.ensures.ok ∙ c.self.view_is)

pub returns-in_err-held-clause-err : goal.returns-in_err-held-clause-err
returns-in_err-held-clause-err c =
    always_err c.from_residual-in_err-held.result
    (ap (λ (h : List (Name × List ℕ)). kept_of h (notes_of c.add.new.self)) c.in_err-held.ensures.err
    ∙ made_view c.self.inside.held.entries (notes_of c.self.inside.before) (notes_of c.add.new.self) c.args.name.now c.in_ok-add.ensures.ok ∙ c.self.view_is)

pub invariant_of-self-2 : goal.invariant_of-self-2
invariant_of-self-2 c =
    let given = subst (λ (n : Name). Sets n (Some c.args.bytes) c.self.inside.held.entries c.insert.new.self.entries) c.in_ok-copy.ensures
    (sets c.self.inside.held c.insert.new.self c.in_ok-copy.field-0 (Some c.args.bytes) c.in_ok-held.ensures.updates) in
    made_slots c.self.inside.held.entries c.insert.new.self.entries (notes_of c.self.inside.before) (notes_of c.add.new.self) (notes_of c.note.new.self) c.args.name.now (Some c.args.bytes) c.saved.result
    c.self.invariant given c.in_ok-add.ensures.ok c.note.ensures

pub returns-clause-ok : goal.returns-clause-ok
returns-clause-ok c =
    let given = subst (λ (n : Name). Sets n (Some c.args.bytes) c.self.inside.held.entries c.insert.new.self.entries) c.in_ok-copy.ensures
    (sets c.self.inside.held c.insert.new.self c.in_ok-copy.field-0 (Some c.args.bytes) c.in_ok-held.ensures.updates) in
    let noted : was c.saved.result (Some c.args.bytes) ≡ Some (at_name c.self.inside.held.entries c.args.name.now) =
    ap (λ s. was s (Some c.args.bytes)) c.saved.ensures ∙ saved_was c.in_ok-held.held (Some c.args.bytes)
    ∙ ap Some (c.in_ok-held.ensures.old ∙ ap (λ (n : Name). at_name c.self.inside.held.entries n) c.in_ok-copy.ensures) in
    changed_view c.self.inside.held.entries c.insert.new.self.entries (notes_of c.self.inside.before) (notes_of c.add.new.self) (notes_of c.note.new.self) c.args.name.now (Some c.args.bytes) c.saved.result
    given c.in_ok-add.ensures.ok c.note.ensures noted
    ∙ ap (λ (k : Kept). changed k c.args.name.now (Some c.args.bytes)) c.self.view_is
