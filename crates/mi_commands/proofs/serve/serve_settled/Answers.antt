use Rattle.std.proofs.Common.{◌≡◌, Bool, Ok, Err, sym, ap, subst, ◌∙◌}
use Rattle.mi_undo.specs.Stands.{settled}
use Rattle.mi_base.specs.Machine.{machine_of}
use Rattle.mi_base.specs.declared.answers.Kind.{Kind}
use Rattle.mi_image.specs.Items.{machine_over}
use Rattle.mi_model.specs.Outcome.{free_room, of_command, of_machine}
use Rattle.mi_words.specs.Asked.{asked}
use Rattle.mi_commands.specs.Answers.{IsTold, SourceFails}
use Rattle.mi_commands.specs.Endings.{kind_unscanned}
use Rattle.mi_commands.specs.Replies.{Replies, log_in}
use Rattle.mi_commands.proofs.MachineLemmas.{scanned_spells, scanned_contents, scanned_ok}
use Rattle.mi_commands.proofs.ServeLemmas.{unscanned_serves, scanned_outcome, scanned_same}
use Rattle.mi_commands.proofs.BeforeLemmas.{serves_from}
use Rattle.mi_commands.proofs.EndLemmas.{free_looks}
use Rattle.mi_commands.proofs.LookLemmas.{looks_so}
use Rattle.mi_commands.proofs.serve.serve_settled.Goals as goal

pub obey-requires-clause-free : goal.obey-requires-clause-free
obey-requires-clause-free g c = λ told. free_looks _ _ (c.requires.free told) (looks_so _ _ (c.in-Ok.ensures.looks told))

pub obey-requires-clause-spelled : goal.obey-requires-clause-spelled
obey-requires-clause-spelled g c = λ told.
    scanned_ok (g.S.Source.files c.args.src.now) (g.V.Volume.state c.args.vol.now).held (g.V.Volume.state c.scan.new.vol).held c.in-Ok.image (c.in-Ok.ensures.looks told).stays.held (c.in-Ok.ensures.image told (g.S.Source.files c.args.src.now))

pub obey-requires-clause-machine : goal.obey-requires-clause-machine
obey-requires-clause-machine g c = λ told files.
    scanned_spells files (g.V.Volume.state c.args.vol.now).held (g.V.Volume.state c.scan.new.vol).held c.in-Ok.image (machine_of (g.V.Volume.state c.args.vol.now).held) (c.requires.free told).nothing_inside (c.in-Ok.ensures.looks told).stays.held (λ m is. is) (c.in-Ok.ensures.image told files)

pub obey-requires-clause-contents : goal.obey-requires-clause-contents
obey-requires-clause-contents g c = λ told files.
    scanned_contents files (g.V.Volume.state c.args.vol.now).held (g.V.Volume.state c.scan.new.vol).held c.in-Ok.image (machine_of (g.V.Volume.state c.args.vol.now).held) (c.in-Ok.ensures.looks told).stays.held (c.in-Ok.ensures.image told files)

pub returns-in-Ok-clause-serves : goal.returns-in-Ok-clause-serves
returns-in-Ok-clause-serves g c h is_handed =
    let s = g.V.Volume.state c.args.vol.now in
    let t = g.V.Volume.state c.scan.new.vol in
    let u = g.V.Volume.state c.obey.new.vol in
    let files = g.S.Source.files c.args.src.now in
    let command = asked c.args.command.now in
    let told = IsTold g.V.Volume.told g.S.Source.told (Ok command) in
    let m = machine_over t.held files c.in-Ok.image in
    let fails = SourceFails (Ok command) (g.S.Source.faults c.args.src.now) (g.S.Source.faults c.obey.new.src) in
    let r = c.obey.result in
    serves_from g.V.Volume.told told told (λ is. is) (λ is. is.0) s t u (of_machine h s.held command (machine_of s.held)) (of_command h (free_room h.capacity t.held) m (settled h.held) command) command (λ x. x ≡ c.args.settled) fails fails (λ x. x)
    r.kind r.reached (log_in r) c.requires.free (λ v. looks_so s t (c.in-Ok.ensures.looks v)) c.in-Ok.ensures.passes c.obey.ensures.passes
    (λ v. scanned_outcome h files s.held t.held c.in-Ok.image command (machine_of s.held) (c.in-Ok.ensures.looks v).stays.held (c.in-Ok.ensures.image v files))
    (c.obey.ensures.serves h m
    (record { same_files = is_handed.same_files; same_capacity = is_handed.same_capacity ∙ sym c.in-Ok.ensures.passes.capacity; same_now = is_handed.same_now; finds = is_handed.finds })
    (λ v from. scanned_same files from s.held t.held c.in-Ok.image (machine_of s.held) (c.in-Ok.ensures.looks v).stays.held (c.in-Ok.ensures.image v files) (c.in-Ok.ensures.image v from)))

pub returns-in-Err-clause-serves : goal.returns-in-Err-clause-serves
returns-in-Err-clause-serves g c h is_handed =
    let s = g.V.Volume.state c.args.vol.now in
    let t = g.V.Volume.state c.scan.new.vol in
    let command = asked c.args.command.now in
    let n = g.S.Source.faults c.args.src.now in
    unscanned_serves g.V.Volume.told (IsTold g.V.Volume.told g.S.Source.told (Ok command)) (λ is. is.0) s t (of_machine h s.held command (machine_of s.held)) c.args.settled command (SourceFails (Ok command) n n)
    c.in-Err.error c.logged.result c.requires.free (λ v. looks_so s t (c.in-Err.ensures.looks v))
    (λ v name is. ap (of_machine h s.held command) (c.in-Err.ensures.bad v name (ap Err is))) (λ is. c.in-Err.ensures.fault (ap Err is))
    (subst (λ (b : Bool). Replies b c.args.settled (kind_unscanned c.in-Err.error) c.logged.result) c.is_walk.ensures
    (subst (λ (k : Kind). Replies c.is_walk.result c.args.settled k c.logged.result) c.unscanned.ensures c.logged.ensures))
