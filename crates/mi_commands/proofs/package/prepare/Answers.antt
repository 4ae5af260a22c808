use Rattle.std.proofs.Common.{refl}
use Rattle.mi_volume.specs.State as volume
use Rattle.mi_source.specs.Counts.{Rose}
use Rattle.mi_image.specs.Items.{machine_over}
use Rattle.mi_image.proofs.LookLemmas.{looks_first}
use Rattle.mi_schema.specs.RowsOf.{rows_in}
use Rattle.mi_model.specs.World.{Given}
use Rattle.mi_model.specs.PackageOutcome.{given_of}
use Rattle.mi_commands.specs.Calls.{sets_of}
use Rattle.mi_commands.proofs.EndLemmas.{source_before}
use Rattle.mi_commands.proofs.PackageLemmas.{walks_on_fails, prepared, planned_over, lengths_over}
use Rattle.mi_commands.proofs.package.prepare.Goals as goal

pub returns-in-Ok-clause-prepares : goal.returns-in-Ok-clause-prepares
returns-in-Ok-clause-prepares g c free =
    let held = (g.V.Volume.state c.args.vol.now).held in
    let files = g.S.Source.files c.args.src.now in
    let p = c.args.asked.now in
    let m = machine_over held files c.args.image in
    let x : Given = given_of files p.folder.now (sets_of p) m c.args.now in
    let first = g.S.Source.faults c.args.src.now in
    let mid = g.S.Source.faults c.load.new.src in
    let last = g.S.Source.faults c.plan_package.new.src in
    let falls = volume.Rose (g.V.Volume.state c.args.vol.now) (g.V.Volume.state c.plan_package.new.vol) in
    let r = c.plan_package.result in
    prepared (g.V.Volume.told × g.S.Source.told) g.S.Source.told falls (Rose first last) free files p.folder.now (sets_of p) m c.args.now p.recorded
    (record x { rows = rows_in c.in-Ok.loaded }) r
    (walks_on_fails p.recorded (record x { rows = rows_in c.in-Ok.loaded }) falls (Rose mid last) (Rose first last) (source_before first mid last c.in-Ok.ensures.counts) r
    (c.plan_package.ensures.walks held files (record x { rows = rows_in c.in-Ok.loaded }) (record { rows = refl; former = refl; folder = refl; words = refl; moment = refl })))
    (λ told. let read = c.in-Ok.ensures.rows told in (
      read.0,
      walks_on_fails p.recorded x falls (Rose mid last) (Rose first last) (source_before first mid last c.in-Ok.ensures.counts) r
          (c.plan_package.ensures.walks held files x (record { rows = read.1; former = refl; folder = refl; words = refl; moment = refl })),
    ))
    (λ t. t.1)
    (λ t. c.plan_package.ensures.plain x (c.in-Ok.ensures.rows t.1).1)
    (λ t.
    planned_over files (g.S.Source.files c.load.new.src) r held c.args.image x c.in-Ok.loaded p c.args.now c.in-Ok.ensures.stays
    (c.plan_package.ensures.plan x t.0 t.1) refl (c.requires.contents t.0)
    (record { rows = (c.in-Ok.ensures.rows t.1).1; former = refl; folder = refl; words = refl; moment = refl }))

pub returns-in-Ok-clause-lengths : goal.returns-in-Ok-clause-lengths
returns-in-Ok-clause-lengths g c = λ told. lengths_over (g.S.Source.files c.args.src.now) (g.S.Source.files c.load.new.src) c.plan_package.result c.in-Ok.ensures.stays (c.plan_package.ensures.lengths told)

pub returns-in-Err-clause-looks : goal.returns-in-Err-clause-looks
returns-in-Err-clause-looks g c = λ v. looks_first (g.V.Volume.state c.args.vol.now)
