use Rattle.std.proofs.Common.{◌≡◌, ◌+◌, ◌<◌, ℕ, List, Option, Some, length, map, sym, ap, ◌∙◌, arith}
use Rattle.std.specs.Prelude.{option_map, option_and_then}
use Rattle.mi_text.specs.Maps.{Name}
use Rattle.mi_base.specs.declared.answers.Fault.TheVariants.{Cycle}
use Rattle.mi_dirs.specs.Faults.{row_number}
use Rattle.mi_schema.specs.Checks.{endless_row, row_with, parents_of}
use Rattle.mi_schema.specs.RowsOf.{behind}
use Rattle.mi_schema.proofs.CheckLemmas.{parents_long, are_rows, none_endless, first_endless}
use Rattle.mi_schema.proofs.ReferenceLaws.{behind_long}
use Rattle.mi_schema.proofs.chain.check_chains.Goals as goal

pub order_of-requires : goal.order_of-requires
order_of-requires g c =
    let rows = behind c.args.rows.now.entries in
    let is : c.as_slice.result.now ≡ parents_of g.R.HasParent.own g.R.HasParent.parent rows = c.as_slice.ensures.value ∙ c.in_ok-parents.ensures ∙ ap (λ (ks : List Name). map (λ r. option_and_then (row_with ks) (g.R.HasParent.parent r)) rows) c.requires.named in
    are_rows g.R.HasParent.own g.R.HasParent.parent rows c.as_slice.result.now is

pub returns-in-Ok : goal.returns-in-Ok
returns-in-Ok g c =
    let rows = behind c.args.rows.now.entries in
    let is : c.as_slice.result.now ≡ parents_of g.R.HasParent.own g.R.HasParent.parent rows = c.as_slice.ensures.value ∙ c.in_ok-parents.ensures ∙ ap (λ (ks : List Name). map (λ r. option_and_then (row_with ks) (g.R.HasParent.parent r)) rows) c.requires.named in (
      ap (λ (ps : List (Option ℕ)). option_map (λ row. Cycle c.args.table.now (row + 1)) (endless_row ps)) (sym is)
          ∙ ap (option_map (λ row. Cycle c.args.table.now (row + 1))) (none_endless c.as_slice.result.now c.in-Ok.ensures.ends),
      tt,
    )

pub returns-in-Err-Fault-Cycle : goal.returns-in-Err-Fault-Cycle
returns-in-Err-Fault-Cycle g c =
    let rows = behind c.args.rows.now.entries in
    let is : c.as_slice.result.now ≡ parents_of g.R.HasParent.own g.R.HasParent.parent rows = c.as_slice.ensures.value ∙ c.in_ok-parents.ensures ∙ ap (λ (ks : List Name). map (λ r. option_and_then (row_with ks) (g.R.HasParent.parent r)) rows) c.requires.named in
    let cycle = rw c.in-Err-Fault-Cycle.field-0-is at c.in-Err-Fault-Cycle.ensures.cycle in
    let name = c.args.table.now in
    let at : c.in-Err-Fault-Cycle.row ≡ row_number cycle.0 = let e = sym c.in-Err-Fault-Cycle.field-0-0-is ∙ cycle.1 in cc in
    let long : length c.as_slice.result.now ≡ length c.args.rows.now.entries = parents_long g.R.HasParent.own g.R.HasParent.parent rows c.as_slice.result.now is ∙ behind_long c.args.rows.now.entries in
    let below : cycle.0 < length c.as_slice.result.now = cycle.2.is_row in
    let number : row_number cycle.0 ≡ cycle.0 + 1 = omega (arith, below, long, c.requires.few) in
    ap (λ (ps : List (Option ℕ)). option_map (λ row. Cycle name (row + 1)) (endless_row ps)) (sym is)
    ∙ ap (option_map (λ row. Cycle name (row + 1))) (first_endless c.as_slice.result.now cycle.0 cycle.2)
    ∙ ap (λ n. Some (Cycle name n)) (sym (at ∙ number))
    ∙ ap (λ n. Some (Cycle n c.in-Err-Fault-Cycle.row)) (sym c.in_ok-name-in-Err-Fault-Cycle.ensures)
