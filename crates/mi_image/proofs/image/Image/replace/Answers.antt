use Rattle.std.proofs.Common.{◌≡◌, true, false, Some, None, ap, subst, sym, ◌∙◌}
use Rattle.std.specs.Prelude.{is_some, option_map, string_bytes}
use Rattle.std.specs.FinMap as map
use Rattle.mi_image.specs.declared.item.Item.{Item}
use Rattle.mi_image.specs.Items.{MayStand, unboxed}
use Rattle.mi_image.proofs.ItemLemmas.{stored, right_set, get-items}
use Rattle.mi_image.proofs.image.Image.replace.Goals as goal

pub unreachable-requires : goal.unreachable-requires
unreachable-requires c =
    let none : map.get c.args.self.now (string_bytes c.args.key) ≡ None =
    sym (ap (λ m. map.get m (string_bytes c.args.key)) c.self.view_is) ∙ get-items c.self.inside.items.entries (string_bytes c.args.key) ∙ ap (option_map unboxed) c.in-Err.ensures.absent in
    let clash : false ≡ true = ap is_some (sym none) ∙ c.requires.set in absurd cc

pub returns : goal.returns
returns c =
    stored c.self.inside.items c.insert.new.self (string_bytes c.args.key) (Some c.args.item) c.in-Ok.ensures.updates
    ∙ ap (λ m. map.insert m (string_bytes c.args.key) (unboxed c.args.item)) c.self.view_is

pub invariant_of-self : goal.invariant_of-self
invariant_of-self c =
    right_set _ _ (string_bytes c.args.key) (Some (unboxed c.args.item)) (stored c.self.inside.items c.insert.new.self (string_bytes c.args.key) (Some c.args.item) c.in-Ok.ensures.updates) c.self.invariant
    (λ i e. let is : unboxed c.args.item ≡ i = cc in subst (λ (j : Item). MayStand (string_bytes c.args.key) j) is c.requires.may)
