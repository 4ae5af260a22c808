use Rattle.std.proofs.Common.{Bool, [], Ok, Err, ap, subst}
use Rattle.mi_model.specs.TopCall.{handed}
use Rattle.mi_words.specs.Asked.{asked}
use Rattle.mi_commands.specs.Answers.{SourceFails}
use Rattle.mi_commands.specs.Endings.{RepliesUnsettled}
use Rattle.mi_commands.specs.Replies.{log_in}
use Rattle.mi_commands.proofs.RunLemmas.{is_handed, served_runs, served_leaves, unsettled_runs, unsettled_leaves, never_short, if_bad, if_full}
use Rattle.mi_commands.proofs.serve.serve.Goals as goal

pub returns-in-Ok-clause-runs : goal.returns-in-Ok-clause-runs
returns-in-Ok-clause-runs g c = λ words out is_asked comes.
    let s = g.V.Volume.state c.args.vol.now in
    let t = g.V.Volume.state c.settle.new.vol in
    let u = g.V.Volume.state c.serve_settled.new.vol in
    let files = g.S.Source.files c.args.src.now in
    let fails = SourceFails (Ok (asked c.args.command.now)) (g.S.Source.faults c.args.src.now) (g.S.Source.faults c.serve_settled.new.src) in
    let r = c.serve_settled.result in
    served_runs g.V.Volume.told g.S.Source.told s t u files words c.args.now (asked c.args.command.now) c.in-Ok.settled fails r.kind r.reached (log_in r)
    c.in-Ok.ensures.settled c.in-Ok.ensures.value (λ told name short. never_short c.settle.result c.in-Ok.settled c.in-Ok.is (c.settle.ensures.short told name short))
    c.in-Ok.ensures.stops c.in-Ok.ensures.passes c.serve_settled.ensures.passes
    (c.serve_settled.ensures.serves (handed words files s c.args.now) (is_handed g.V.Volume.told g.S.Source.told s t u files words c.args.now (asked c.args.command.now) c.in-Ok.settled fails r.kind r.reached (log_in r) c.in-Ok.ensures.passes c.in-Ok.ensures.settled))
    out is_asked comes

pub returns-in-Ok-clause-leaves : goal.returns-in-Ok-clause-leaves
returns-in-Ok-clause-leaves g c =
    let s = g.V.Volume.state c.args.vol.now in
    let t = g.V.Volume.state c.settle.new.vol in
    let u = g.V.Volume.state c.serve_settled.new.vol in
    let files = g.S.Source.files c.args.src.now in
    let fails = SourceFails (Ok (asked c.args.command.now)) (g.S.Source.faults c.args.src.now) (g.S.Source.faults c.serve_settled.new.src) in
    let r = c.serve_settled.result in
    served_leaves g.V.Volume.told g.S.Source.told s t u files [] c.args.now (asked c.args.command.now) c.in-Ok.settled fails r.kind r.reached (log_in r) c.in-Ok.ensures.value c.in-Ok.ensures.room c.in-Ok.ensures.stops c.in-Ok.ensures.passes c.serve_settled.ensures.passes
    (c.serve_settled.ensures.serves (handed [] files s c.args.now) (is_handed g.V.Volume.told g.S.Source.told s t u files [] c.args.now (asked c.args.command.now) c.in-Ok.settled fails r.kind r.reached (log_in r) c.in-Ok.ensures.passes c.in-Ok.ensures.settled))

pub returns-in-Err-clause-runs : goal.returns-in-Err-clause-runs
returns-in-Err-clause-runs g c = λ words out is_asked comes.
    let s = g.V.Volume.state c.args.vol.now in
    let t = g.V.Volume.state c.settle.new.vol in
    unsettled_runs g.V.Volume.told g.S.Source.told s t (g.S.Source.files c.args.src.now) words c.args.now (asked c.args.command.now) (SourceFails (Ok (asked c.args.command.now)) (g.S.Source.faults c.args.src.now) (g.S.Source.faults c.args.src.now))
    c.in-Err.error c.unsettled.result
    (record {
      goes = c.in-Err.ensures.stops;
      leaves = c.in-Err.ensures.leaves;
      others = c.in-Err.ensures.others;
      unread = c.in-Err.ensures.unread;
      unread_stays = c.in-Err.ensures.unread_stays;
      bad = λ told name is. if_bad c.in-Err.error name _ is (c.in-Err.ensures.bad told);
      fault = λ is. c.in-Err.ensures.fault (ap Err is);
      short = c.in-Err.ensures.room;
      full = λ name is. (if_full c.in-Err.error name _ is c.in-Err.ensures.full).2;
    })
    (subst (λ (b : Bool). RepliesUnsettled b c.in-Err.error c.unsettled.result) c.is_walk.ensures c.unsettled.ensures)
    out is_asked comes

pub returns-in-Err-clause-leaves : goal.returns-in-Err-clause-leaves
returns-in-Err-clause-leaves g c =
    let s = g.V.Volume.state c.args.vol.now in
    let t = g.V.Volume.state c.settle.new.vol in
    unsettled_leaves g.V.Volume.told g.S.Source.told s t (g.S.Source.files c.args.src.now) [] c.args.now (asked c.args.command.now) (SourceFails (Ok (asked c.args.command.now)) (g.S.Source.faults c.args.src.now) (g.S.Source.faults c.args.src.now)) c.in-Err.error c.unsettled.result
    (record {
      goes = c.in-Err.ensures.stops;
      leaves = c.in-Err.ensures.leaves;
      others = c.in-Err.ensures.others;
      unread = c.in-Err.ensures.unread;
      unread_stays = c.in-Err.ensures.unread_stays;
      bad = λ told name is. if_bad c.in-Err.error name _ is (c.in-Err.ensures.bad told);
      fault = λ is. c.in-Err.ensures.fault (ap Err is);
      short = c.in-Err.ensures.room;
      full = λ name is. (if_full c.in-Err.error name _ is c.in-Err.ensures.full).2;
    })
    (subst (λ (b : Bool). RepliesUnsettled b c.in-Err.error c.unsettled.result) c.is_walk.ensures c.unsettled.ensures)
