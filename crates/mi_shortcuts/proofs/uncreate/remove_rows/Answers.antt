-- Row by row.
use Rattle.std.proofs.Common.{ℕ, Bor, arith}
use Rattle.mi_schema.specs.declared.typed_rows.ShortcutRow.{ShortcutRow}
use Rattle.mi_model.specs.World.{World, RowEffect}
use Rattle.mi_steps.specs.Makes.{plan_machine}
use Rattle.mi_steps.proofs.RowLemmas.{rows_started}
use Rattle.mi_records.specs.Order.{as_numbered}
use Rattle.mi_records.proofs.KeyLemmas.{keeps_not, keeps_on}
use Rattle.mi_records.proofs.RowLemmas.{one_row, all_rows}
use Rattle.mi_records.proofs.WriteLemmas.{rows_refused}
use Rattle.mi_shortcuts.specs.Entries.{remove_effect}
use Rattle.mi_shortcuts.proofs.uncreate.remove_rows.Goals as goal

abbrev effect : World → ℕ × Bor ShortcutRow → RowEffect
effect w r = remove_effect w (as_numbered r)

pub loop-row-init : goal.loop-row-init
loop-row-init g c = record {
  rows = λ held files w asked guards. rows_started files (plan_machine held files c.args.plan.now) c.args.plan.now.script;
  keeps = keeps_not c.args.plan.now;
}

pub loop-row-preserved : goal.loop-row-preserved
loop-row-preserved g c = record {
  rows = λ held files w asked guards.
      let row = c.in-Ok.ensures.row held files w asked guards in
      one_row (effect w) c.args.rows.now c.loop-row.row-index c.row-item.result c.loop-row-test.true c.row-item.is files (plan_machine held files c.args.plan.now) (plan_machine held files c.loop-row.plan) c.args.plan.now.script c.loop-row.plan.script (c.loop-row.invariant.rows held files w asked guards)
      (plan_machine held files c.remove_row.new.plan) c.remove_row.new.plan.script row.touches row.gives row.makes;
  keeps = keeps_on c.args.plan.now c.loop-row.plan c.remove_row.new.plan c.loop-row.invariant.keeps c.in-Ok.ensures.keeps;
}

pub returns-clause-rows : goal.returns-clause-rows
returns-clause-rows g c = λ held files w asked guards.
    all_rows (effect w) c.args.rows.now c.loop-row.row-index files (plan_machine held files c.args.plan.now) (plan_machine held files c.loop-row.plan) c.args.plan.now.script c.loop-row.plan.script
    (omega (arith, c.loop-row-test.false)) (c.loop-row.invariant.rows held files w asked guards)

pub returns-in-Err-clause-rows : goal.returns-in-Err-clause-rows
returns-in-Err-clause-rows g c = λ held files w asked guards.
    rows_refused held files c.args.plan.now c.loop-row.plan (Unit {0}) (Unit {0}) (effect w) c.args.rows.now c.loop-row.row-index c.row-item.result c.remove_row.new.plan c.in-Err.error c.loop-row-test.true c.row-item.is
    (c.loop-row.invariant.rows held files w asked guards) (c.in-Err.ensures.row held files w asked guards)

pub returns-in-Err-clause-keeps : goal.returns-in-Err-clause-keeps
returns-in-Err-clause-keeps g c = keeps_on c.args.plan.now c.loop-row.plan c.remove_row.new.plan c.loop-row.invariant.keeps c.in-Err.ensures.keeps
