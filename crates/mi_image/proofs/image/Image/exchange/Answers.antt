use Rattle.std.proofs.Common.{ap, ◌∙◌, ◌≡◌, Some, subst, sym}
use Rattle.std.specs.Prelude.{option_map, string_bytes}
use Rattle.std.specs.FinMap as map
use Rattle.mi_image.specs.declared.item.Item.{Item}
use Rattle.mi_image.specs.Items.{MayStand, AreRight, unboxed, items_of}
use Rattle.mi_image.proofs.ItemLemmas.{stored, right_set, get-items}
use Rattle.mi_image.proofs.image.Image.exchange.Goals as goal

pub returns-clause-ok : goal.returns-clause-ok
returns-clause-ok c =
    stored c.self.inside.items c.insert.new.self (string_bytes c.args.key) (Some c.in_ok-item.item) c.in_ok-was.ensures.updates
    ∙ ap (λ (i : Item). map.insert (items_of c.self.inside.items.entries) (string_bytes c.args.key) i) c.in_ok-item.ensures
    ∙ ap (λ m. map.insert m (string_bytes c.args.key) c.args.item) c.self.view_is

pub returns-clause-value : goal.returns-clause-value
returns-clause-value c = ap (option_map unboxed) c.in_ok-was.ensures.old ∙ sym (get-items c.self.inside.items.entries (string_bytes c.args.key)) ∙ ap (λ m. map.get m (string_bytes c.args.key)) c.self.view_is

pub returns-clause-right : goal.returns-clause-right
returns-clause-right c = subst (λ m. AreRight m) c.self.view_is c.self.invariant

pub invariant_of-self-2 : goal.invariant_of-self-2
invariant_of-self-2 c =
    right_set _ _ (string_bytes c.args.key) (Some (unboxed c.in_ok-item.item)) (stored c.self.inside.items c.insert.new.self (string_bytes c.args.key) (Some c.in_ok-item.item) c.in_ok-was.ensures.updates) c.self.invariant
    (λ i e. let is : unboxed c.in_ok-item.item ≡ i = cc in subst (λ (j : Item). MayStand (string_bytes c.args.key) j) (sym c.in_ok-item.ensures ∙ is) c.requires)

pub invariant_of-self : goal.invariant_of-self
invariant_of-self c = subst (λ es. AreRight (items_of es)) (sym c.in_err-was.ensures.err) c.self.invariant
