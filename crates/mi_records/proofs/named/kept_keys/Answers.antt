-- Row by row.
use Rattle.std.proofs.Common.{Some, None, pos, negsuc, ap, sym, ◌∙◌}
use Rattle.std.specs.Map.Iter.{deref}
use Rattle.std.proofs.lemmas.List.{append-nil}
use Rattle.std.proofs.lemmas.Map.Iter.{rest_more, rest_all}
use Rattle.mi_schema.specs.declared.package.Package.{Package}
use Rattle.mi_schema.specs.declared.typed_rows.RegistryRow.{RegistryRow}
use Rattle.mi_schema.specs.Laws.{IsWithin}
use Rattle.mi_schema.specs.RowsOf.{rows_in, behind}
use Rattle.mi_model.specs.RegistryGuards.{kept_key}
use Rattle.mi_records.proofs.NamedLemmas.{roots_behind, root_first}
use Rattle.mi_records.proofs.NamedLemmas.{picking_none, picking_more, picking_all}
use Rattle.mi_records.proofs.named.kept_keys.Goals as goal

pub loop-row-init : goal.loop-row-init
unfolding rows_in
loop-row-init g c =
    let these = c.into_iter-row-iterator.ensures.into_iter_gives ∙ c.values-row-items.ensures.rest in
    record {
      picking = λ w asked. picking_none w (kept_key w) (g.S.Sees.rows c.args.seen.now) _ _ asked.rows (these ∙ ap (λ (p : Package). behind p.registry.entries) c.package-loaded.ensures) c.new-keys.ensures.items;
      roots = roots_behind (λ (r : RegistryRow). IsWithin (negsuc 0) (pos 3) r.root) c.package-loaded.result.now.registry.entries _ c.values_stand.ensures.registry_root these;
    }

pub kept_key-requires : goal.kept_key-requires
kept_key-requires g c =
    let next = rest_more deref c.loop-row.row-iterator c.next.new.self c.next.result c.in-Some.row c.in-Some.is c.next.ensures.steps in
    (root_first (λ (r : RegistryRow). IsWithin (negsuc 0) (pos 3) r.root) c.loop-row.row-iterator c.next.new.self c.in-Some.row.now next c.loop-row.invariant.roots).0

pub loop-row-preserved-in-Continue-branch-3 : goal.loop-row-preserved-in-Continue-branch-3
loop-row-preserved-in-Continue-branch-3 g c =
    let next = rest_more deref c.loop-row.row-iterator c.next.new.self c.next.result c.in-Some.row c.in-Some.is c.next.ensures.steps in
    record {
      picking = λ w asked.
          let old = c.loop-row.invariant.picking w asked in
          picking_more w (kept_key w) c.loop-row.keys.items c.push.new.self.items c.loop-row.row-iterator c.next.new.self c.in-Some.row.now (Some c.in-Some-2.key) old next (sym c.in-Some-2.is ∙ c.in_ok-key.ensures w old.number asked) c.in_ok-push.ensures.items;
      roots = (root_first (λ (r : RegistryRow). IsWithin (negsuc 0) (pos 3) r.root) c.loop-row.row-iterator c.next.new.self c.in-Some.row.now next c.loop-row.invariant.roots).1;
    }

pub loop-row-preserved : goal.loop-row-preserved
loop-row-preserved g c =
    let next = rest_more deref c.loop-row.row-iterator c.next.new.self c.next.result c.in-Some.row c.in-Some.is c.next.ensures.steps in
    record {
      picking = λ w asked.
          let old = c.loop-row.invariant.picking w asked in
          picking_more w (kept_key w) c.loop-row.keys.items c.loop-row.keys.items c.loop-row.row-iterator c.next.new.self c.in-Some.row.now None old next (sym c.in_default.is ∙ c.in_ok-key.ensures w old.number asked) (sym (append-nil c.loop-row.keys.items));
      roots = (root_first (λ (r : RegistryRow). IsWithin (negsuc 0) (pos 3) r.root) c.loop-row.row-iterator c.next.new.self c.in-Some.row.now next c.loop-row.invariant.roots).1;
    }

pub returns : goal.returns
returns g c = λ w asked. picking_all w (kept_key w) c.loop-row.keys.items c.loop-row.row-iterator (c.loop-row.invariant.picking w asked) (rest_all deref c.loop-row.row-iterator c.next.new.self c.next.result c.in-None.is c.next.ensures.steps)
