-- The rows by their own keys; each is a row of the package.
use Rattle.std.proofs.Common.{pos, negsuc}
use Rattle.mi_schema.specs.declared.typed_rows.RemoveRegistryRow.{RemoveRegistryRow}
use Rattle.mi_schema.specs.Laws.{IsWithin}
use Rattle.mi_schema.specs.RowsOf.{rows_in}
use Rattle.mi_records.proofs.PhaseLemmas.{ok_roots}
use Rattle.mi_records.proofs.removing.removals.Goals as goal

pub returns-clause-rows : goal.returns-clause-rows
unfolding rows_in
returns-clause-rows c = c.in_key_order.ensures.order (λ (r : RemoveRegistryRow). r.remove_registry) c.keys_stand.ensures.remove_registry

pub returns-clause-roots : goal.returns-clause-roots
returns-clause-roots c = ok_roots (λ (r : RemoveRegistryRow). IsWithin (negsuc 0) (pos 3) r.root) c.in_key_order.result c.args.loaded.now.remove_registry.entries c.values_stand.ensures.remove_registry_root c.in_key_order.ensures.each
