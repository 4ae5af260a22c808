-- The rows by their own keys; each is a row of the package.
use Rattle.std.proofs.Common.{pos, negsuc}
use Rattle.mi_schema.specs.declared.typed_rows.RegistryRow.{RegistryRow}
use Rattle.mi_schema.specs.Laws.{IsWithin}
use Rattle.mi_schema.specs.RowsOf.{rows_in}
use Rattle.mi_records.proofs.PhaseLemmas.{ok_roots}
use Rattle.mi_records.proofs.phase.registry_rows.Goals as goal

pub returns-clause-rows : goal.returns-clause-rows
unfolding rows_in
returns-clause-rows c = c.in_key_order.ensures.order (λ (r : RegistryRow). r.registry) c.keys_stand.ensures.registry

pub returns-clause-roots : goal.returns-clause-roots
returns-clause-roots c = ok_roots (λ (r : RegistryRow). IsWithin (negsuc 0) (pos 3) r.root) c.in_key_order.result c.args.loaded.now.registry.entries c.values_stand.ensures.registry_root c.in_key_order.ensures.each
