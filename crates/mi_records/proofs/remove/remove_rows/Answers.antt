-- Row by row.
use Rattle.std.proofs.Common.{◌≡◌, true, false, List, ap, sym, ◌∙◌, arith}
use Rattle.std.specs.List.{list_any}
use Rattle.std.specs.BTreeMap.{is_at}
use Rattle.mi_text.specs.Maps.{name_cmp}
use Rattle.mi_model.specs.Prune.{Path}
use Rattle.mi_model.specs.CountRows.{is_guarded}
use Rattle.mi_model.specs.RemoveRegistryValues.{remove_row}
use Rattle.mi_steps.specs.Makes.{plan_machine}
use Rattle.mi_steps.proofs.RowLemmas.{rows_started}
use Rattle.mi_records.specs.Order.{as_numbered}
use Rattle.mi_records.proofs.KeyLemmas.{keeps_not, keeps_on}
use Rattle.mi_records.proofs.RowLemmas.{one_row, all_rows}
use Rattle.mi_records.proofs.WriteLemmas.{rows_refused}
use Rattle.mi_records.proofs.remove.remove_rows.Goals as goal

pub loop-row-init : goal.loop-row-init
loop-row-init g c = record {
  rows = λ held files w same guards. rows_started files (plan_machine held files c.args.plan.now) c.args.plan.now.script;
  clear = λ guarded held files guards key has. let clash : true ≡ false = sym has ∙ ap (λ (ks : List Path). list_any (is_at (name_cmp key)) ks) c.new-cleared.ensures.empty in cc;
  keeps = keeps_not c.args.plan.now;
}

pub loop-row-preserved : goal.loop-row-preserved
loop-row-preserved g c = record {
  rows = λ held files w same guards.
      let row = c.in-Ok.ensures.row held files w same guards (c.loop-row.invariant.clear (is_guarded w) held files guards) in
      one_row (λ r. remove_row w (as_numbered r)) c.args.rows.now c.loop-row.row-index c.row-item.result c.loop-row-test.true c.row-item.is files (plan_machine held files c.args.plan.now) (plan_machine held files c.loop-row.plan) c.args.plan.now.script c.loop-row.plan.script (c.loop-row.invariant.rows held files w same guards)
      (plan_machine held files c.remove_numbered.new.plan) c.remove_numbered.new.plan.script row.touches row.gives row.makes;
  clear = λ guarded held files guards. c.in-Ok.ensures.clear guarded held files guards (c.loop-row.invariant.clear guarded held files guards);
  keeps = keeps_on c.args.plan.now c.loop-row.plan c.remove_numbered.new.plan c.loop-row.invariant.keeps c.in-Ok.ensures.keeps;
}

pub returns-clause-rows : goal.returns-clause-rows
returns-clause-rows g c = λ held files w same guards.
    all_rows (λ r. remove_row w (as_numbered r)) c.args.rows.now c.loop-row.row-index files (plan_machine held files c.args.plan.now) (plan_machine held files c.loop-row.plan) c.args.plan.now.script c.loop-row.plan.script
    (omega (arith, c.loop-row-test.false)) (c.loop-row.invariant.rows held files w same guards)

pub returns-in-Err-clause-rows : goal.returns-in-Err-clause-rows
returns-in-Err-clause-rows g c = λ held files w same guards.
    rows_refused held files c.args.plan.now c.loop-row.plan (Unit {0}) (Unit {0}) (λ r. remove_row w (as_numbered r)) c.args.rows.now c.loop-row.row-index c.row-item.result c.remove_numbered.new.plan c.in-Err.error c.loop-row-test.true c.row-item.is
    (c.loop-row.invariant.rows held files w same guards) (c.in-Err.ensures.row held files w same guards (c.loop-row.invariant.clear (is_guarded w) held files guards))

pub returns-in-Err-clause-keeps : goal.returns-in-Err-clause-keeps
returns-in-Err-clause-keeps g c = keeps_on c.args.plan.now c.loop-row.plan c.remove_numbered.new.plan c.loop-row.invariant.keeps c.in-Err.ensures.keeps
