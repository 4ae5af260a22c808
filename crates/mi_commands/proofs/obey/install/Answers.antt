use Rattle.std.proofs.Common.{◌≡◌, ℕ, Option, true, Ok, refl, sym, ap, ◌∙◌, subst}
use Rattle.std.specs.Prelude.{IsOk}
use Rattle.mi_source.specs.Counts.{Rose}
use Rattle.mi_source.specs.Paths.{Files}
use Rattle.mi_volume.specs.Maps.{Map}
use Rattle.mi_base.specs.declared.answers.Kind.{Kind}
use Rattle.mi_base.specs.Machine.{machine_of}
use Rattle.mi_image.specs.Items.{machine_over}
use Rattle.mi_model.specs.Outcome.{free_room}
use Rattle.mi_model.specs.PackageOutcome.{given_of, of_package}
use Rattle.mi_model.specs.Words.{Package}
use Rattle.mi_commands.specs.Answers.{IsTold}
use Rattle.mi_commands.specs.Calls.{IsPlanned, sets_of}
use Rattle.mi_commands.specs.Replies.{log_in, Replies}
use Rattle.mi_commands.specs.Walks.{AreThere}
use Rattle.mi_commands.proofs.BeforeLemmas.{serves_from}
use Rattle.mi_commands.proofs.EndLemmas.{source_before, free_looks}
use Rattle.mi_commands.proofs.LookLemmas.{looks_so}
use Rattle.mi_commands.proofs.ServeLemmas.{stopped_serves}
use Rattle.mi_commands.proofs.obey.install.Goals as goal

pub carry-requires-clause-free : goal.carry-requires-clause-free
carry-requires-clause-free g c = λ v. free_looks _ _ (c.requires.free v) (looks_so _ _ (c.in-Ok.ensures.looks v))

pub carry-requires-clause-spelled : goal.carry-requires-clause-spelled
carry-requires-clause-spelled g c = λ v. subst (λ (h : Map). IsOk (machine_of h)) (sym (c.in-Ok.ensures.looks v).stays.held) (c.requires.spelled v)

pub carry-requires-clause-lengths : goal.carry-requires-clause-lengths
carry-requires-clause-lengths g c = λ told. subst (λ (files : Files). AreThere files c.in-Ok.plan) (sym c.in-Ok.ensures.stays) (c.in-Ok.ensures.lengths told)

pub returns-in-Ok-clause-serves : goal.returns-in-Ok-clause-serves
returns-in-Ok-clause-serves g c =
    let s = g.V.Volume.state c.args.vol.now in
    let t = g.V.Volume.state c.prepare.new.vol in
    let u = g.V.Volume.state c.carry.new.vol in
    let files = g.S.Source.files c.args.src.now in
    let p = c.args.asked.now in
    let m = machine_over s.held files c.args.image in
    let given = given_of files p.folder.now (sets_of p) m c.args.now in
    let room = free_room s.capacity s.held in
    let out = of_package files room c.args.now m p.recorded p.folder.now (sets_of p) in
    let command = Package p.recorded p.folder.now (sets_of p) in
    let told = IsTold g.V.Volume.told g.S.Source.told (Ok command) in
    let first = g.S.Source.faults c.args.src.now in
    let mid = g.S.Source.faults c.prepare.new.src in
    let last = g.S.Source.faults c.carry.new.src in
    let r = c.carry.result in
    serves_from g.V.Volume.told told told (λ is. is) (λ is. is.0) s t u out out command (λ x. x ≡ c.args.settled) (Rose first last) (Rose mid last) (source_before first mid last c.in-Ok.ensures.counts) r.kind r.reached (log_in r)
    c.requires.free (λ v. looks_so s t (c.in-Ok.ensures.looks v)) c.in-Ok.ensures.passes c.carry.ensures.passes (λ v. refl)
    (c.carry.ensures.serves p.recorded p.folder.now (sets_of p) given out
    (λ v is.
    subst (λ (x : Files). IsPlanned x (free_room t.capacity t.held) given out c.in-Ok.plan) (sym c.in-Ok.ensures.stays)
    (subst (λ (x : Option ℕ). IsPlanned files x given out c.in-Ok.plan)
    (ap (λ (c : Option ℕ). free_room c s.held) (sym c.in-Ok.ensures.passes.capacity) ∙ ap (free_room t.capacity) (sym (c.in-Ok.ensures.looks v).stays.held))
    (c.in-Ok.ensures.prepares room (v, is))))
    (λ v. c.requires.machine v ∙ sym (c.in-Ok.ensures.looks v).stays.held))

pub returns-in-Err-clause-serves : goal.returns-in-Err-clause-serves
returns-in-Err-clause-serves g c =
    let s = g.V.Volume.state c.args.vol.now in
    let t = g.V.Volume.state c.prepare.new.vol in
    let files = g.S.Source.files c.args.src.now in
    let p = c.args.asked.now in
    let m = machine_over s.held files c.args.image in
    let room = free_room s.capacity s.held in
    let out = of_package files room c.args.now m p.recorded p.folder.now (sets_of p) in
    let fails = Rose (g.S.Source.faults c.args.src.now) (g.S.Source.faults c.prepare.new.src) in
    stopped_serves g.V.Volume.told g.S.Source.told p.recorded p.folder.now (sets_of p) c.args.settled fails out
    s t c.in-Err.stop c.logged.result c.requires.free (λ v. looks_so s t (c.in-Err.ensures.looks v)) (c.in-Err.ensures.prepares room) (subst (λ (k : Kind). Replies true c.args.settled k c.logged.result) c.stopped.ensures c.logged.ensures)
