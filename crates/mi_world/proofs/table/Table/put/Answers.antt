use Rattle.std.proofs.Common.{◌≡◌, ap, ◌∙◌, arith}
use Rattle.std.specs.Prelude.{string_bytes}
use Rattle.std.specs.FinMap.{insert}
use Rattle.mi_text.specs.Maps.{Name}
use Rattle.mi_props.specs.Props.{Values, values_of}
use Rattle.mi_props.proofs.Values.{one_put}
use Rattle.mi_world.proofs.BoundLemmas.{within_insert}
use Rattle.mi_world.proofs.table.Table.put.Goals as goal

pub invariant_of-self-2 : goal.invariant_of-self-2
invariant_of-self-2 c =
    let put = one_put c.self.inside.values c.insert.new.self (string_bytes c.in_ok-key.key) c.args.value c.in_ok-insert.ensures.updates in
    let named : values_of c.insert.new.self.entries ≡ insert (values_of c.self.inside.values.entries) c.args.name.now c.args.value = put ∙ ap (λ (k : Name). insert (values_of c.self.inside.values.entries) k c.args.value) c.in_ok-key.ensures.ok in
    within_insert (values_of c.self.inside.values.entries) (values_of c.insert.new.self.entries) c.args.name.now c.args.value c.self.inside.bound c.max-self-inside.result named c.self.invariant (omega arith) (omega arith)

pub returns : goal.returns
returns c =
    one_put c.self.inside.values c.insert.new.self (string_bytes c.in_ok-key.key) c.args.value c.in_ok-insert.ensures.updates
    ∙ ap (λ (m : Values). insert m (string_bytes c.in_ok-key.key) c.args.value) c.self.view_is
    ∙ ap (λ (k : Name). insert c.args.self.now k c.args.value) c.in_ok-key.ensures.ok
