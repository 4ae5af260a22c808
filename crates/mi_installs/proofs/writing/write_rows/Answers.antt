-- Row by row.
use Rattle.std.proofs.Common.{refl, sym, subst, ◌∙◌, arith}
use Rattle.std.specs.Prelude.{Ok, Err}
use Rattle.mi_source.specs.Paths.{Files}
use Rattle.mi_model.specs.FileVersions.{is_written}
use Rattle.mi_model.specs.InstallFiles.{installed_row}
use Rattle.mi_steps.specs.Makes.{plan_machine}
use Rattle.mi_steps.proofs.RowLemmas.{rows_started}
use Rattle.mi_records.proofs.RowLemmas.{one_row, all_rows}
use Rattle.mi_installs.specs.declared.placed.Placed.{Placed}
use Rattle.mi_installs.specs.Copying.{StaysThere, AddsWhole}
use Rattle.mi_installs.specs.Installs.{InstallRow}
use Rattle.mi_installs.specs.Placings.{as_placed}
use Rattle.mi_installs.proofs.InstallLemmas.{grown_not, grown_on, rows_not, decided_at}
use Rattle.mi_installs.proofs.LengthLemmas.{whole_not, whole_on}
use Rattle.mi_installs.proofs.PhaseLemmas.{rose_since}
use Rattle.mi_installs.proofs.writing.write_rows.Goals as goal

pub loop-place-init : goal.loop-place-init
loop-place-init g c = record {
  rows = λ held w asked told over is. rows_started (g.S.Source.files c.args.src.now) (plan_machine held (g.S.Source.files c.args.src.now) c.args.plan.now) c.args.plan.now.script;
  there = λ held told there. there;
  lengths = λ told. whole_not (g.S.Source.files c.args.src.now) c.args.plan.now.script;
  stays = refl;
  counts = omega arith;
  grows = grown_not c.args.plan.now;
}

pub loop-place-preserved : goal.loop-place-preserved
loop-place-preserved g c =
    let files = g.S.Source.files c.args.src.now in
    let p = c.index-rows-place.result in
    let stays = c.loop-place.invariant.stays in
    record {
      rows = λ held w asked told over is.
          let decided = decided_at (λ (p : Placed). is_written w p.row.now) c.args.decided.now c.args.rows.now c.loop-place.place p is c.loop-place-test.true c.index-rows-place.is in
          let row = subst (λ (f : Files). InstallRow held f c.loop-place.plan c.write_decided.new.plan {A = Unit {0}} (installed_row w (as_placed p)) (Ok tt)) stays (c.in-Ok.ensures.row held w asked told (over ∙ sym stays) decided) in
          one_row (λ p. installed_row w (as_placed p)) c.args.rows.now c.loop-place.place p c.loop-place-test.true c.index-rows-place.is files (plan_machine held files c.args.plan.now) (plan_machine held files c.loop-place.plan) c.args.plan.now.script c.loop-place.plan.script (c.loop-place.invariant.rows held w asked told over is)
          (plan_machine held files c.write_decided.new.plan) c.write_decided.new.plan.script row.touches row.gives row.makes;
      there = λ held told there. subst (λ (f : Files). StaysThere held f c.loop-place.plan c.write_decided.new.plan) stays (c.in-Ok.ensures.there held told) (c.loop-place.invariant.there held told there);
      lengths = λ told.
          let so_far = c.loop-place.invariant.grows.grows in
          let more = c.write_decided.ensures.grows.grows in
          whole_on files c.args.plan.now.script c.loop-place.plan.script c.write_decided.new.plan.script so_far.0 more.0 so_far.1 more.1 (c.loop-place.invariant.lengths told)
          (subst (λ (f : Files). AddsWhole f c.loop-place.plan.script c.write_decided.new.plan.script) stays (c.in-Ok.ensures.lengths told));
      stays = c.write_decided.ensures.stays ∙ stays;
      counts = let so_far = c.loop-place.invariant.counts in let more = c.write_decided.ensures.counts in omega arith;
      grows = grown_on c.args.plan.now c.loop-place.plan c.write_decided.new.plan c.loop-place.invariant.grows c.write_decided.ensures.grows;
    }

pub returns-clause-rows : goal.returns-clause-rows
returns-clause-rows g c = λ held w asked told over is.
    let files = g.S.Source.files c.args.src.now in
    all_rows (λ p. installed_row w (as_placed p)) c.args.rows.now c.loop-place.place files (plan_machine held files c.args.plan.now) (plan_machine held files c.loop-place.plan) c.args.plan.now.script c.loop-place.plan.script
    (omega (arith, c.loop-place-test.false)) (c.loop-place.invariant.rows held w asked told over is)

pub returns-in-Err-clause-rows : goal.returns-in-Err-clause-rows
returns-in-Err-clause-rows g c = λ held w asked told over is.
    let files = g.S.Source.files c.args.src.now in
    let p = c.index-rows-place.result in
    let stays = c.loop-place.invariant.stays in
    let decided = decided_at (λ (p : Placed). is_written w p.row.now) c.args.decided.now c.args.rows.now c.loop-place.place p is c.loop-place-test.true c.index-rows-place.is in
    let row = subst (λ (f : Files). InstallRow held f c.loop-place.plan c.write_decided.new.plan {A = Unit {0}} (installed_row w (as_placed p)) (Err c.in-Err.error)) stays (c.in-Err.ensures.row held w asked told (over ∙ sym stays) decided) in
    rows_not held files c.args.plan.now c.loop-place.plan (Unit {0}) (Unit {0}) (λ p. installed_row w (as_placed p)) c.args.rows.now c.loop-place.place p c.write_decided.new.plan c.in-Err.error c.loop-place-test.true c.index-rows-place.is
    (c.loop-place.invariant.rows held w asked told over is) row

pub returns-in-Err-clause-source : goal.returns-in-Err-clause-source
returns-in-Err-clause-source g c = λ is.
    rose_since (g.S.Source.faults c.args.src.now) (g.S.Source.faults c.loop-place.src) (g.S.Source.faults c.write_decided.new.src) c.loop-place.invariant.counts (c.in-Err.ensures.source is)

pub returns-in-Err-clause-stays : goal.returns-in-Err-clause-stays
returns-in-Err-clause-stays g c = c.write_decided.ensures.stays ∙ c.loop-place.invariant.stays

pub returns-in-Err-clause-counts : goal.returns-in-Err-clause-counts
returns-in-Err-clause-counts g c = let so_far = c.loop-place.invariant.counts in let more = c.write_decided.ensures.counts in omega arith

pub returns-in-Err-clause-grows : goal.returns-in-Err-clause-grows
returns-in-Err-clause-grows g c = grown_on c.args.plan.now c.loop-place.plan c.write_decided.new.plan c.loop-place.invariant.grows c.write_decided.ensures.grows
