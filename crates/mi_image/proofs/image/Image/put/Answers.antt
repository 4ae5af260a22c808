use Rattle.std.proofs.Common.{◌∙◌, ◌≡◌, List, ℕ, subst, sym}
use Rattle.std.specs.Prelude.{OnOk, string_bytes}
use Rattle.std.specs.FinMap as map
use Rattle.mi_image.specs.Items.{MayStand}
use Rattle.mi_image.proofs.image.Image.put.Goals as goal

pub put_at-requires : goal.put_at-requires
put_at-requires c =
    let named : string_bytes c.in-Ok.key ≡ c.args.name.now = c.in-Ok.ensures.ok ∙ c.as_str.ensures.text in
    subst (λ (n : List ℕ). MayStand n c.args.item) (sym named) c.requires

pub returns-in-Ok-clause-ok : goal.returns-in-Ok-clause-ok
returns-in-Ok-clause-ok c =
    let named : string_bytes c.in-Ok.key ≡ c.args.name.now = c.in-Ok.ensures.ok ∙ c.as_str.ensures.text in
    subst (λ (n : List ℕ). OnOk c.put_at.result (c.put_at.new.self ≡ map.insert c.args.self.now n c.args.item)) named c.put_at.ensures.ok
