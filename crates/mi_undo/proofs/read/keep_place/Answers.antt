use Rattle.std.proofs.Common.{◌++◌, ◌∷◌, [], List, ℕ, subst}
use Rattle.mi_undo.specs.Area.{Knows, place_names}
use Rattle.mi_undo.proofs.FreshLemmas.{knows_new, knows_placed}
use Rattle.mi_undo.proofs.read.keep_place.Goals as goal

pub returns-clause-knows : goal.returns-clause-knows
returns-clause-knows c = λ e.
    knows_placed c.insert.new.self c.args.places.now.items c.push.new.self.items c.args.place c.in-Ok-push.ensures.items
    (subst (λ (n : List ℕ). Knows c.insert.new.self (place_names c.args.places.now.items ++ n ∷ [])) c.in-Ok.ensures
    (knows_new c.args.seen.now c.insert.new.self (place_names c.args.places.now.items) c.in-Ok.name c.in-Ok-true.field-0 c.requires.knows c.in-Ok-true.ensures.added c.in-Ok-true.field-0-test c.in-Ok-true.ensures.updates))
