use Rattle.std.proofs.Common.{length}
use Rattle.mi_undo.proofs.StepLemmas.{no_more_written, no_more_stays}
use Rattle.mi_undo.proofs.steps.put_synced.Goals as goal

pub returns-in_err-put-clause-most : goal.returns-in_err-put-clause-most
returns-in_err-put-clause-most g c = λ told. no_more_written (g.V.Volume.state c.args.vol.now) (g.V.Volume.state c.put.new.self) c.args.name.now c.args.bytes.now c.put.result (c.put.ensures.writes told)

pub returns-in_err-sync-clause-most : goal.returns-in_err-sync-clause-most
returns-in_err-sync-clause-most g c = λ told.
    no_more_stays (g.V.Volume.state c.args.vol.now) (g.V.Volume.state c.put.new.self) (g.V.Volume.state c.sync.new.self) c.args.name.now (length c.args.bytes.now) (c.sync.ensures.syncs told).stays.held
    (no_more_written (g.V.Volume.state c.args.vol.now) (g.V.Volume.state c.put.new.self) c.args.name.now c.args.bytes.now c.put.result (c.put.ensures.writes told))

pub returns-clause-most : goal.returns-clause-most
returns-clause-most g c = λ told.
    no_more_stays (g.V.Volume.state c.args.vol.now) (g.V.Volume.state c.put.new.self) (g.V.Volume.state c.sync.new.self) c.args.name.now (length c.args.bytes.now) (c.sync.ensures.syncs told).stays.held
    (no_more_written (g.V.Volume.state c.args.vol.now) (g.V.Volume.state c.put.new.self) c.args.name.now c.args.bytes.now c.put.result (c.put.ensures.writes told))
