use Rattle.std.proofs.Common.{List, ℕ, ap, sym, subst, ◌∙◌}
use Rattle.std.specs.Prelude.{nat_eq, codes}
use Rattle.std.specs.List.{starts_with}
use Rattle.mi_image.specs.Items.{Items, AreRight}
use Rattle.mi_image.proofs.SystemLemmas.{held_at_last, none_held}
use Rattle.mi_image.proofs.image.Image.has_system.Goals as goal

pub returns-in-Some : goal.returns-in-Some
returns-in-Some c =
    let right : AreRight c.args.self.now = subst (λ (m : Items). AreRight m) c.self.view_is c.self.invariant in
    c.starts_with.ensures.value ∙ ap (λ (n : List ℕ). starts_with nat_eq n (codes "y/")) c.as_bytes.ensures.value
    ∙ held_at_last c.self.inside.items c.args.self.now c.next_back.new.self c.in-Some.name.now c.self.view_is right c.keys.ensures.ordered (sym c.keys.ensures.rest ∙ c.in-Some.ensures.steps)

pub returns-in-None : goal.returns-in-None
returns-in-None c = none_held c.self.inside.items c.args.self.now c.self.view_is c.keys.ensures.ordered (sym c.keys.ensures.rest ∙ c.in-None.ensures.steps.0)
