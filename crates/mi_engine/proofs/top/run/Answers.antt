use Rattle.std.proofs.Common.{◌≡◌, refl, arith}
use Rattle.mi_volume.specs.State.{Rose}
use Rattle.mi_source.specs.Counts as counts
use Rattle.mi_undo.specs.Stands.{settled}
use Rattle.mi_model.specs.Assignments.{texts_of}
use Rattle.mi_model.specs.Logs.{IsLog}
use Rattle.mi_model.specs.TopCall.{IsTold}
use Rattle.mi_model.specs.Words.{command_of, walks}
use Rattle.mi_commands.specs.Answers.{SourceFails}
use Rattle.mi_commands.specs.Replies.{log_in}
use Rattle.mi_commands.proofs.BeforeLemmas.{caused_as}
use Rattle.mi_engine.proofs.TopLemmas.{completes, logs}
use Rattle.mi_engine.proofs.top.run.Goals as goal

-- Written out, so that an edit that turns it is refused at once (docs/CONTRIBUTING.md).
pub returns-clause-words : goal.returns-clause-words
returns-clause-words g c = c.reply_to-reply.ensures.leaves.answers

pub returns-clause-caused : goal.returns-clause-caused
returns-clause-caused g c = λ o comes.
    let words = texts_of c.args.words.now in
    let told = IsTold g.V.Volume.told g.S.Source.told words in
    let s = g.V.Volume.state c.args.vol.now in
    let u = g.V.Volume.state c.reply_to-reply.new.vol in
    let n = g.S.Source.faults c.args.src.now in
    let m = g.S.Source.faults c.reply_to-reply.new.src in
    caused_as g.V.Volume.told told told (λ is. is) (λ is. is.0) o o (λ v. refl) (counts.Rose n m) (SourceFails (command_of words) n m) (λ fails. fails.1) s.faults s.faults u.faults (omega arith) (Rose s u) (Rose s u) (λ rose. rose)
    c.reply_to-reply.result.kind (c.reply_to-reply.ensures.runs o comes).caused

pub returns-clause-complete : goal.returns-clause-complete
returns-clause-complete g c = λ o comes told same still.
    let runs = c.reply_to-reply.ensures.runs o comes in
    completes g.V.Volume.told g.S.Source.told (g.V.Volume.state c.args.vol.now) (g.V.Volume.state c.reply_to-reply.new.vol) o (command_of (texts_of c.args.words.now)) (g.S.Source.faults c.args.src.now) (g.S.Source.faults c.reply_to-reply.new.src) told same still
    c.reply_to-reply.result.reached c.reply_to-reply.result.kind runs.begins runs.caused

pub returns-clause-stops : goal.returns-clause-stops
returns-clause-stops g c = λ o comes. (c.reply_to-reply.ensures.runs o comes).stops

pub returns-clause-leaves : goal.returns-clause-leaves
returns-clause-leaves g c = λ o comes. (c.reply_to-reply.ensures.runs o comes).leaves

pub returns-clause-one_map : goal.returns-clause-one_map
returns-clause-one_map g c = c.reply_to-reply.ensures.leaves.one_map

pub returns-clause-recovers : goal.returns-clause-recovers
returns-clause-recovers g c = c.reply_to-reply.ensures.leaves.recovers

pub returns-clause-clean : goal.returns-clause-clean
returns-clause-clean g c = c.reply_to-reply.ensures.leaves.cleans

pub returns-clause-reads : goal.returns-clause-reads
returns-clause-reads g c = λ o comes. (c.reply_to-reply.ensures.runs o comes).reads

pub returns-clause-reached : goal.returns-clause-reached
returns-clause-reached g c = λ o comes told. ((c.reply_to-reply.ensures.runs o comes).begins told).most

pub returns-clause-begun : goal.returns-clause-begun
returns-clause-begun g c = λ o comes told. ((c.reply_to-reply.ensures.runs o comes).begins told).begun

pub returns-clause-log : goal.returns-clause-log
returns-clause-log g c = λ o comes told.
    let words = texts_of c.args.words.now in
    let s = g.V.Volume.state c.args.vol.now in
    logs (IsLog g.V.Volume.told (IsTold g.V.Volume.told g.S.Source.told words) (λ found. g.V.Volume.told → found ≡ settled s.held) (walks (command_of words)) o c.reply_to-reply.result.kind c.reply_to-reply.result.reached) c.reply_to-reply.result.kind c.tell-log_lost.result (log_in c.reply_to-reply.result) _ _
    (c.reply_to-reply.ensures.runs o comes).log (c.tell-log_lost.ensures.written told) (c.tell-log_lost.ensures.front told)
