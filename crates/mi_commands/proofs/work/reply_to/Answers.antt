use Rattle.std.proofs.Common.{Ok, Err}
use Rattle.mi_model.specs.Assignments.{texts_of}
use Rattle.mi_model.specs.Words.{command_of}
use Rattle.mi_words.specs.Asked.{asked}
use Rattle.mi_commands.specs.Answers.{SourceFails}
use Rattle.mi_commands.specs.Replies.{log_in}
use Rattle.mi_commands.proofs.WordLemmas.{asked_may}
use Rattle.mi_commands.proofs.RunLemmas.{words_runs, words_leave, runs_as_read, leaves_as_read}
use Rattle.mi_commands.proofs.work.reply_to.Goals as goal

pub serve-requires : goal.serve-requires
serve-requires g c = record { words = asked_may (texts_of c.args.words.now) c.in-Ok.command c.in-Ok.ensures }

pub returns-in-Ok-clause-runs : goal.returns-in-Ok-clause-runs
returns-in-Ok-clause-runs g c o comes =
    let words = texts_of c.args.words.now in
    runs_as_read g.V.Volume.told g.S.Source.told (g.V.Volume.state c.args.vol.now) (g.V.Volume.state c.serve.new.vol) o (command_of words) (Ok (asked c.in-Ok.command)) (g.S.Source.faults c.args.src.now) (g.S.Source.faults c.serve.new.src) c.serve.result.kind c.serve.result.reached (log_in c.serve.result) c.in-Ok.ensures
    (c.serve.ensures.runs words o c.in-Ok.ensures comes)

pub returns-in-Ok-clause-leaves : goal.returns-in-Ok-clause-leaves
returns-in-Ok-clause-leaves g c = leaves_as_read g.V.Volume.told _ _ (command_of (texts_of c.args.words.now)) (Ok (asked c.in-Ok.command)) c.serve.result.kind c.in-Ok.ensures c.serve.ensures.leaves

pub returns-in-Err-clause-runs : goal.returns-in-Err-clause-runs
returns-in-Err-clause-runs g c o comes =
    let words = texts_of c.args.words.now in
    let s = g.V.Volume.state c.args.vol.now in
    let files = g.S.Source.files c.args.src.now in
    let n = g.S.Source.faults c.args.src.now in
    runs_as_read g.V.Volume.told g.S.Source.told s s o (command_of words) (Err c.in-Err.place) n n c.logged.result.kind c.logged.result.reached (log_in c.logged.result) c.in-Err.ensures
    (words_runs g.V.Volume.told g.S.Source.told s files words c.args.now (SourceFails (Err c.in-Err.place) n n) c.in-Err.place c.in-Err.ensures c.logged.result c.logged.ensures o comes)

pub returns-in-Err-clause-leaves : goal.returns-in-Err-clause-leaves
returns-in-Err-clause-leaves g c =
    let s = g.V.Volume.state c.args.vol.now in
    let files = g.S.Source.files c.args.src.now in
    let n = g.S.Source.faults c.args.src.now in
    leaves_as_read g.V.Volume.told s s (command_of (texts_of c.args.words.now)) (Err c.in-Err.place) c.logged.result.kind c.in-Err.ensures
    (words_leave g.V.Volume.told g.S.Source.told s files (texts_of c.args.words.now) c.args.now (SourceFails (Err c.in-Err.place) n n) c.in-Err.place c.in-Err.ensures c.logged.result c.logged.ensures)
