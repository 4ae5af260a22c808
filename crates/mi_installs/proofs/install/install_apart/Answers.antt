-- What is decided, then written.
use Rattle.std.proofs.Common.{List, map, sym, ap, subst, ◌∙◌}
use Rattle.std.specs.Prelude.{Bool, OnOk, Vec}
use Rattle.std.specs.declared.alloc.Global.{Global}
use Rattle.mi_source.specs.Paths.{Files}
use Rattle.mi_image.specs.Items.{Items, AreThere, machine_over}
use Rattle.mi_model.specs.World.{RowEffect}
use Rattle.mi_model.specs.FileVersions.{is_written}
use Rattle.mi_model.specs.InstallFiles as model
use Rattle.mi_model.specs.InstallFiles.{installed_row}
use Rattle.mi_records.proofs.PhaseLemmas.{map-over}
use Rattle.mi_installs.specs.Copying.{StaysThere, AddsWhole}
use Rattle.mi_installs.specs.Installs.{InstallRows}
use Rattle.mi_installs.specs.Placings.{as_placed}
use Rattle.mi_installs.proofs.PhaseLemmas.{reads_on, rose_since, rows_fault_not}
use Rattle.mi_installs.proofs.install.install_apart.Goals as goal

pub returns-in-Ok-clause-rows : goal.returns-in-Ok-clause-rows
returns-in-Ok-clause-rows g c = λ w asked vt st over at there.
    let held = (g.V.Volume.state c.args.vol.now).held in
    let stays = c.decide.ensures.reads.stays in
    let rows = c.args.rows.now in
    let machine = at ∙ ap (λ (i : Items). machine_over held (g.S.Source.files c.args.src.now) i) (sym c.image.ensures) in
    let decided = c.as_slice.ensures.value ∙ c.in-Ok.ensures.decided w asked vt st machine (subst (λ (i : Items). AreThere held (g.S.Source.files c.args.src.now) i) (sym c.image.ensures) there) ∙ map-over (λ (p : model.Placed). is_written w p.row) as_placed rows in
    let made = c.write_rows.ensures.rows held w asked st (over ∙ sym stays) decided in
    subst (λ (effects : List RowEffect). InstallRows held (g.S.Source.files c.args.src.now) c.args.plan.now c.write_rows.new.plan effects c.write_rows.result) (sym (map-over (installed_row w) as_placed rows))
    (subst (λ (f : Files). InstallRows held f c.args.plan.now c.write_rows.new.plan (map (λ p. installed_row w (as_placed p)) rows) c.write_rows.result) stays made)

pub returns-in-Ok-clause-there : goal.returns-in-Ok-clause-there
returns-in-Ok-clause-there g c = λ st.
    let held = (g.V.Volume.state c.args.vol.now).held in
    subst (λ (f : Files). OnOk c.write_rows.result (StaysThere held f c.args.plan.now c.write_rows.new.plan)) c.decide.ensures.reads.stays (c.write_rows.ensures.there held st)

pub returns-in-Ok-clause-lengths : goal.returns-in-Ok-clause-lengths
returns-in-Ok-clause-lengths g c = λ st.
    subst (λ (f : Files). OnOk c.write_rows.result (AddsWhole f c.args.plan.now.script c.write_rows.new.plan.script)) c.decide.ensures.reads.stays (c.write_rows.ensures.lengths st)

pub returns-in-Ok-clause-reads : goal.returns-in-Ok-clause-reads
returns-in-Ok-clause-reads g c =
    reads_on g.V.Volume.told (g.V.Volume.state c.args.vol.now) (g.V.Volume.state c.decide.new.vol) (g.S.Source.files c.args.src.now) (g.S.Source.files c.decide.new.src) (g.S.Source.files c.write_rows.new.src) (g.S.Source.faults c.args.src.now) (g.S.Source.faults c.decide.new.src) (g.S.Source.faults c.write_rows.new.src)
    c.decide.ensures.reads c.write_rows.ensures.stays c.write_rows.ensures.counts

pub returns-in-Ok-clause-source : goal.returns-in-Ok-clause-source
returns-in-Ok-clause-source g c = λ is.
    rose_since (g.S.Source.faults c.args.src.now) (g.S.Source.faults c.decide.new.src) (g.S.Source.faults c.write_rows.new.src) c.decide.ensures.reads.counts (c.write_rows.ensures.source is)

pub returns-in-Ok-clause-volume : goal.returns-in-Ok-clause-volume
returns-in-Ok-clause-volume g c = λ is. absurd (c.write_rows.ensures.volume is)

pub returns-in-Err-clause-rows : goal.returns-in-Err-clause-rows
returns-in-Err-clause-rows g c = λ w asked vt st over at there.
    rows_fault_not (g.V.Volume.state c.args.vol.now).held (g.S.Source.files c.args.src.now) c.args.plan.now c.args.plan.now w (Vec Bool Global) (Unit {0}) (map (installed_row w) (map as_placed c.args.rows.now)) c.in-Err.error c.in-Err.ensures.fault
