use Rattle.std.proofs.Common.{◌++◌, List, ℕ, Some, None, ap, sym, ◌∙◌}
use Rattle.std.proofs.lemmas.Result.{on_ok_weaker, on_err_weaker}
use Rattle.mi_volume.specs.Maps.{bytes_or_none}
use Rattle.mi_volume.specs.Kept.{changed}
use Rattle.mi_volume.specs.declared.before.Before.TheVariants.{Held}
use Rattle.mi_volume.specs.Notes.{notes_of}
use Rattle.mi_volume.proofs.SlotLemmas.{held_at}
use Rattle.mi_volume.proofs.KeptLemmas.{extended, extended_noted, unextended, always_err}
use Rattle.mi_volume.proofs.slots.Slots.extend.Goals as goal

pub returns-in_default-clause-ok : goal.returns-in_default-clause-ok
returns-in_default-clause-ok c =
    let none = held_at c.self.inside.held.entries (notes_of c.self.inside.before) c.args.self.now c.args.name.now None c.self.view_is c.in_default.ensures.value in
    on_ok_weaker c.give.result (λ ok. ok ∙ ap (λ (b : List ℕ). changed c.args.self.now c.args.name.now (Some b)) (c.in_ok-copy_of.ensures ∙ sym (ap (λ o. bytes_or_none o ++ c.args.bytes.now) none))) c.give.ensures.ok

pub returns-then-is_noted-clause-ok : goal.returns-then-is_noted-clause-ok
returns-then-is_noted-clause-ok c =
    on_ok_weaker c.extend_held.result (λ ok. extended_noted c.self.inside.held.entries c.extend_held.new.held.entries (notes_of c.self.inside.before) c.args.self.now c.args.name.now c.args.bytes.now c.in-Some.held.now c.is_noted.result
    c.self.invariant c.self.view_is c.in-Some.ensures.value ok c.is_noted.ensures c.if-is_noted.true) c.extend_held.ensures.ok

pub returns-then-is_noted-clause-err : goal.returns-then-is_noted-clause-err
returns-then-is_noted-clause-err c =
    on_err_weaker c.extend_held.result (λ err. unextended c.self.inside.held.entries c.extend_held.new.held.entries (notes_of c.self.inside.before) c.args.self.now c.args.name.now c.self.view_is err) c.extend_held.ensures.err

pub returns-in_err-extend_held-clause-err : goal.returns-in_err-extend_held-clause-err
returns-in_err-extend_held-clause-err c =
    always_err c.from_residual-in_err-extend_held.result (unextended c.self.inside.held.entries c.extend_held-2.new.held.entries (notes_of c.self.inside.before) c.args.self.now c.args.name.now c.self.view_is c.in_err-extend_held.ensures.err)

pub returns-clause-ok : goal.returns-clause-ok
returns-clause-ok c =
    extended c.self.inside.held.entries c.extend_held-2.new.held.entries (notes_of c.self.inside.before) (notes_of c.note.new.self) c.args.self.now c.args.name.now c.args.bytes.now c.in-Some.held.now (Held c.in_ok-saved.saved)
    c.self.invariant c.self.view_is c.in-Some.ensures.value c.in_ok-extend_held.ensures.ok c.note.ensures
    (ap (λ (b : List ℕ). Some (Some b)) (c.in_ok-saved.ensures ∙ c.as_slice.ensures))
