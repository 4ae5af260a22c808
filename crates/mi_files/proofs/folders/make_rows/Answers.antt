-- Row by row.
use Rattle.std.proofs.Common.{ℕ, [], Bor, arith}
use Rattle.std.specs.Option.{option_map_or}
use Rattle.mi_dirs.specs.Places.{target_of}
use Rattle.mi_schema.specs.declared.typed_rows.CreateFolderRow.{CreateFolderRow}
use Rattle.mi_model.specs.World.{World, RowEffect}
use Rattle.mi_model.specs.Folders.{made_folder}
use Rattle.mi_model.specs.Parents.{folder_with_parents}
use Rattle.mi_steps.specs.Makes.{plan_machine}
use Rattle.mi_steps.proofs.RowLemmas.{rows_started}
use Rattle.mi_records.specs.Order.{as_numbered}
use Rattle.mi_records.proofs.KeyLemmas.{keeps_not, keeps_on}
use Rattle.mi_records.proofs.RowLemmas.{one_row, all_rows}
use Rattle.mi_files.proofs.FolderLemmas.{row_makes}
use Rattle.mi_files.proofs.folders.make_rows.Goals as goal

abbrev effect : World → ℕ × Bor CreateFolderRow → RowEffect
effect w r = made_folder w (as_numbered r)

pub loop-row-init : goal.loop-row-init
loop-row-init g c = record {
  rows = λ held files w asked. rows_started files (plan_machine held files c.args.plan.now) c.args.plan.now.script;
  keeps = keeps_not c.args.plan.now;
}

pub loop-row-preserved : goal.loop-row-preserved
loop-row-preserved g c = record {
  rows = λ held files w asked.
      let choices = g.E.Sees.choices c.args.seen.now in
      one_row (effect w) c.args.rows.now c.loop-row.row-index c.row-item.result c.loop-row-test.true c.row-item.is files (plan_machine held files c.args.plan.now) (plan_machine held files c.loop-row.plan) c.args.plan.now.script c.loop-row.plan.script (c.loop-row.invariant.rows held files w asked)
      (plan_machine held files c.make_row.new.plan) c.make_row.new.plan.script (option_map_or folder_with_parents (target_of choices.dirs c.row-item.result.1.now.directory) [])
      (row_makes (g.E.Env.lookups c.args.seen.now) choices (g.E.Sees.rows c.args.seen.now) w asked c.row-item.result (plan_machine held files c.loop-row.plan)) (c.in_ok-make_row.ensures.makes held files);
  keeps = keeps_on c.args.plan.now c.loop-row.plan c.make_row.new.plan c.loop-row.invariant.keeps c.in_ok-make_row.ensures.keeps;
}

pub returns-clause-rows : goal.returns-clause-rows
returns-clause-rows g c = λ held files w asked.
    all_rows (effect w) c.args.rows.now c.loop-row.row-index files (plan_machine held files c.args.plan.now) (plan_machine held files c.loop-row.plan) c.args.plan.now.script c.loop-row.plan.script
    (omega (arith, c.loop-row-test.false)) (c.loop-row.invariant.rows held files w asked)
