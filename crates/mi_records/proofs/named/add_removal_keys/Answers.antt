-- Row by row.
use Rattle.std.proofs.Common.{Some, None, ap, sym, ◌∙◌}
use Rattle.std.specs.Prelude.{option_map}
use Rattle.std.specs.Result.{result_ok}
use Rattle.std.proofs.lemmas.List.{append-nil}
use Rattle.mi_schema.specs.TableRows.{Numbered}
use Rattle.mi_schema.specs.declared.typed_rows.RemoveRegistryRow.{RemoveRegistryRow}
use Rattle.mi_model.specs.RegistryGuards.{place_of_key}
use Rattle.mi_model.specs.RegistryRows.{removal_place}
use Rattle.mi_records.specs.Order.{as_numbered}
use Rattle.mi_records.proofs.NamedLemmas.{picked_behind}
use Rattle.mi_records.proofs.named.add_removal_keys.Goals as goal
use Rattle.mi_records.proofs.named.add_removal_keys.Goals.{in-Some+in_ok-push, in_default}

pub loop-row-preserved : goal.loop-row-preserved
loop-row-preserved g c =
    let pick = λ (r : Numbered RemoveRegistryRow). option_map place_of_key (result_ok (removal_place (g.E.Env.lookups c.args.env.now) r)) in
    elim c.match-branch-2.branch [
      | in-Some+in_ok-push w ↦ picked_behind c.args.keys.now.items as_numbered pick c.args.rows.now c.loop-row.row-index c.row-item.result (Some w.in-Some.key) c.loop-row.keys.items c.match-branch-2.keys.items c.loop-row-test.true c.row-item.is (sym w.in-Some.is ∙ c.in_ok-key.ensures c.row-item.result.0) c.loop-row.invariant (ap (λ v. v.items) w.keys-is ∙ w.in_ok-push.ensures.items)
      | in_default w ↦ picked_behind c.args.keys.now.items as_numbered pick c.args.rows.now c.loop-row.row-index c.row-item.result None c.loop-row.keys.items c.match-branch-2.keys.items c.loop-row-test.true c.row-item.is (sym w.in_default.is ∙ c.in_ok-key.ensures c.row-item.result.0) c.loop-row.invariant (ap (λ v. v.items) w.keys-is ∙ sym (append-nil c.loop-row.keys.items))
    ]
