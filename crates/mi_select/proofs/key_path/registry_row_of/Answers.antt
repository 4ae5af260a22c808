-- The row by its key, its number, and the range of its Root.
use Rattle.std.proofs.Common.{pos, negsuc, List, ap, ◌∙◌}
use Rattle.std.specs.Map.{keys_of}
use Rattle.mi_text.specs.Maps.{Name}
use Rattle.mi_schema.specs.declared.typed_rows.RegistryRow.{RegistryRow}
use Rattle.mi_schema.specs.Checks.{row_with}
use Rattle.mi_schema.specs.Laws.{IsWithin}
use Rattle.mi_schema.specs.RowsOf.{rows_in, behind}
use Rattle.mi_schema.proofs.CheckLemmas.{place_of_key}
use Rattle.mi_components.proofs.NumberedLemmas.{numbered-found, numbered-missing}
use Rattle.mi_select.proofs.KeyPathLemmas.{at_place}
use Rattle.mi_wishes.proofs.RowLemmas.{lookup-row, keys-own}
use Rattle.mi_select.proofs.key_path.registry_row_of.Goals as goal

pub returns-in-Some-clause-row : goal.returns-in-Some-clause-row
unfolding rows_in
returns-in-Some-clause-row c =
    let entries = c.args.loaded.now.registry.entries in
    let own = c.keys_stand.ensures.registry in
    numbered-found (λ (r : RegistryRow). r.registry) (behind entries) c.args.key.now 1 c.in-Some.place c.in-Some.row.now
    (c.in-Some.ensures.index ∙ place_of_key c.args.key.now (keys_of entries) ∙ ap (λ (ks : List Name). row_with ks c.args.key.now) (keys-own (λ (r : RegistryRow). r.registry) entries own))
    (c.in-Some.ensures.value ∙ lookup-row (λ (r : RegistryRow). r.registry) entries own c.args.key.now)

pub returns-in-Some-clause-root : goal.returns-in-Some-clause-root
returns-in-Some-clause-root c = at_place (λ (e : Name × RegistryRow). IsWithin (negsuc 0) (pos 3) e.1.root) c.args.loaded.now.registry.entries c.in-Some.place _ c.in-Some.ensures.entry c.values_stand.ensures.registry_root

pub returns-in-None-clause-row : goal.returns-in-None-clause-row
unfolding rows_in
returns-in-None-clause-row c =
    let entries = c.args.loaded.now.registry.entries in
    numbered-missing (λ (r : RegistryRow). r.registry) (behind entries) c.args.key.now 1 (c.in-None.ensures.value ∙ lookup-row (λ (r : RegistryRow). r.registry) entries c.keys_stand.ensures.registry c.args.key.now)
