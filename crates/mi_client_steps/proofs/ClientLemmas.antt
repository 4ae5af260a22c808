-- The clients of a component in a plan: the product alone, or the system with it.
use Rattle.std.proofs.Common.{◌≡◌, ℕ, Bool, true, false, cond, List, [], ◌∷◌, map, sym, subst}
use Rattle.mi_text.specs.Maps.{Map}
use Rattle.mi_text.specs.declared.guid.Guid.{Guid}
use Rattle.mi_source.specs.Paths.{Files}
use Rattle.mi_model.specs.Texts.{Text}
use Rattle.mi_model.specs.ClientRows.{the_system, client_touch}
use Rattle.mi_steps.specs.declared.plan.Plan.{Plan}
use Rattle.mi_steps.specs.Makes.{Makes, plan_machine}
use Rattle.mi_steps.proofs.FollowLemmas.{joined}

module _ (held : Map (List ℕ)) (files : Files) (a b : Plan) where
  pub client_alone : (id : Guid) (path : Text) (code : ℕ) (permanent : Bool) → permanent ≡ false → Makes held files a b (client_touch id path code ∷ []) → Makes held files a b (map (client_touch id path) (code ∷ cond permanent (the_system ∷ []) []))
  client_alone id path code permanent is one = subst (λ p. Makes held files a b (map (client_touch id path) (code ∷ cond p (the_system ∷ []) []))) (sym is) one

  pub client_more : (c : Plan) (id : Guid) (path : Text) (code : ℕ) (permanent : Bool) → permanent ≡ true → Makes held files a b (client_touch id path code ∷ []) → Makes held files b c (client_touch id path the_system ∷ [])
      → Makes held files a c (map (client_touch id path) (code ∷ cond permanent (the_system ∷ []) []))
  client_more c id path code permanent is one more =
      subst (λ p. Makes held files a c (map (client_touch id path) (code ∷ cond p (the_system ∷ []) []))) (sym is)
      (joined files (plan_machine held files a) (plan_machine held files b) (plan_machine held files c) a.script b.script c.script (client_touch id path code ∷ []) (client_touch id path the_system ∷ []) one more)
