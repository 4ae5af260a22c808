use Rattle.std.proofs.Common.{inl, refl}
use Rattle.mi_undo.specs.Stands.{outside}
use Rattle.mi_carry.proofs.EndLemmas.{free_then}
use Rattle.mi_carry.proofs.HaltLemmas.{stopped_goes, refused_goes, stop_caused, done_goes, failed_goes}
use Rattle.mi_carry.proofs.RoomLemmas.{stopped_room, done_room, failed_room}
use Rattle.mi_carry.proofs.ReachLemmas.{not_none, met_stop, commit_reached, halt_begins, none_begun, all_begun}
use Rattle.mi_carry.proofs.walk.carry_walk.Goals as goal

pub returns-in-Err-clause-goes : goal.returns-in-Err-clause-goes
returns-in-Err-clause-goes g c = λ t F w.
    rw c.from.ensures (record { after = _; made = λ s. refl; goes = stopped_goes (Unit {0}) _ _ _ F _ c.args.refusal _ _ (c.in-Err.ensures.along t F w) })

pub returns-in-Err-clause-caused : goal.returns-in-Err-clause-caused
returns-in-Err-clause-caused g c =
    rw c.from.ensures (stop_caused _ _ _ c.args.refusal c.args.begun _ _ _ _ c.in-Err.ensures.stopped)

pub returns-in-Err-clause-reached : goal.returns-in-Err-clause-reached
returns-in-Err-clause-reached g c =
    rw c.from.ensures (λ some. met_stop c.args.refusal c.args.begun c.args.parts.now c.in-Err.stopped.reached c.in-Err.stopped.why c.in-Err.ensures.reached)

pub returns-in-Some-clause-reached : goal.returns-in-Some-clause-reached
returns-in-Some-clause-reached g c = λ some. inl (c.in-Some.is, refl)

pub returns-in-Err-commit-clause-reached : goal.returns-in-Err-commit-clause-reached
returns-in-Err-commit-clause-reached g c =
    rw c.of.ensures (λ some. commit_reached (Unit {0}) c.args.refusal c.args.begun c.args.parts.now c.last_reached.result c.in-Err-commit.fault c.last_reached.ensures (not_none c.args.parts.now some))

pub returns-in-Err-clause-commit_begins : goal.returns-in-Err-clause-commit_begins
returns-in-Err-clause-commit_begins g c = λ t F w. rw c.from.ensures (none_begun F _ _ (c.in-Err.ensures.along t F w).goes _)

pub returns-in-Some-clause-commit_begins : goal.returns-in-Some-clause-commit_begins
returns-in-Some-clause-commit_begins g c = λ t F w. none_begun F _ _ (c.in-Ok.ensures.along t F w).goes _

pub returns-in-Ok-commit-clause-commit_begins : goal.returns-in-Ok-commit-clause-commit_begins
returns-in-Ok-commit-clause-commit_begins g c = λ t F w.
    let along = c.in-Ok.ensures.along t F w in
    all_begun F _ _ along.goes (g.V.Volume.state c.commit.new.self.vol.now) (Unit {0}) _ tt (c.in-Ok-commit.ensures.commits t F along.works).goes

pub returns-in-Err-commit-clause-commit_begins : goal.returns-in-Err-commit-clause-commit_begins
returns-in-Err-commit-clause-commit_begins g c = λ t F w.
    let along = c.in-Ok.ensures.along t F w in
    rw c.of.ensures
    (all_begun F _ _ along.goes (g.V.Volume.state c.commit.new.self.vol.now) _ _ (halt_begins (Unit {0}) c.args.begun c.args.parts.now c.last_reached.result c.in-Err-commit.fault c.last_reached.ensures) (c.in-Err-commit.ensures.commits t F along.works).goes)

pub commit-requires-clause-works : goal.commit-requires-clause-works
commit-requires-clause-works g c = λ t. let w = c.requires.works t in (w.0, (c.in-Ok.ensures.along t w.0 w.1).works)

pub returns-in-Some-clause-goes : goal.returns-in-Some-clause-goes
returns-in-Some-clause-goes g c = λ t F w. record { after = _; made = λ s. refl; goes = refused_goes (Unit {0}) _ _ _ F _ c.args.refusal _ _ (c.in-Ok.ensures.along t F w) }

pub returns-in-Ok-commit-clause-goes : goal.returns-in-Ok-commit-clause-goes
returns-in-Ok-commit-clause-goes g c = λ t F w.
    let along = c.in-Ok.ensures.along t F w in
    let commits = c.in-Ok-commit.ensures.commits t F along.works in
    let t1 = g.V.Volume.state c.carry_parts.new.area.vol.now in
    rw c.in-None.is (record {
      after = outside t1.held;
      made = λ s. c.in-Ok.ensures.map t s F w;
      goes = done_goes (Unit {0}) (g.V.Volume.state c.args.area.now.vol.now) t1 (g.V.Volume.state c.commit.new.self.vol.now) c.commit.new.self.kept F (outside t1.held) along.goes
          c.carry_parts.ensures.passes.faults c.commit.ensures.passes.faults (λ is. refl) _ _ commits (free_then _ _ _ c.carry_parts.ensures.passes.faults commits.free);
    })

pub returns-in-Err-commit-clause-goes : goal.returns-in-Err-commit-clause-goes
returns-in-Err-commit-clause-goes g c = λ t F w.
    let along = c.in-Ok.ensures.along t F w in
    let commits = c.in-Err-commit.ensures.commits t F along.works in
    let t1 = g.V.Volume.state c.carry_parts.new.area.vol.now in
    rw (c.in-None.is, c.of.ensures) (record {
      after = outside t1.held;
      made = λ s. c.in-Ok.ensures.map t s F w;
      goes = failed_goes (Unit {0}) (g.V.Volume.state c.args.area.now.vol.now) t1 (g.V.Volume.state c.commit.new.self.vol.now) c.commit.new.self.kept F (outside t1.held) along.goes
          c.carry_parts.ensures.passes.faults c.commit.ensures.passes.faults (λ is. refl) c.in-Err-commit.fault _ commits c.in-Err-commit.ensures.undoable;
    })

pub returns-in-Err-clause-roomy : goal.returns-in-Err-clause-roomy
returns-in-Err-clause-roomy g c = λ t F w roomy.
    rw c.from.ensures (stopped_room _ _ F _ (c.in-Err.ensures.roomy t F w roomy))

pub returns-in-Some-clause-roomy : goal.returns-in-Some-clause-roomy
returns-in-Some-clause-roomy g c = λ t F w roomy. stopped_room _ _ F _ (c.in-Ok.ensures.roomy t F w roomy)

pub returns-in-Ok-commit-clause-roomy : goal.returns-in-Ok-commit-clause-roomy
returns-in-Ok-commit-clause-roomy g c = λ t F w roomy.
    let stays = c.in-Ok.ensures.roomy t F w roomy in
    done_room _ _ (g.V.Volume.state c.commit.new.self.vol.now) F stays _ _ (c.in-Ok-commit.ensures.room t F stays.back.n (c.in-Ok.ensures.along t F w).works stays.back.takes)

pub returns-in-Err-commit-clause-roomy : goal.returns-in-Err-commit-clause-roomy
returns-in-Err-commit-clause-roomy g c = λ t F w roomy.
    let stays = c.in-Ok.ensures.roomy t F w roomy in
    rw c.of.ensures (failed_room _ _ (g.V.Volume.state c.commit.new.self.vol.now) F stays c.in-Err-commit.fault _ (c.in-Err-commit.ensures.room t F stays.back.n (c.in-Ok.ensures.along t F w).works stays.back.takes))
