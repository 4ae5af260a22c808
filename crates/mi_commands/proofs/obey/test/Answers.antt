use Rattle.std.proofs.Common.{◌++◌, [], false, Ok}
use Rattle.std.proofs.lemmas.List.{append-nil}
use Rattle.std.specs.Prelude.{codes}
use Rattle.mi_source.specs.Counts.{Rose}
use Rattle.mi_undo.specs.Stands.{settled}
use Rattle.mi_image.specs.Items.{machine_over}
use Rattle.mi_model.specs.Outcome.{free_room, of_command}
use Rattle.mi_gen.specs.Generated.{held}
use Rattle.mi_model.specs.Words.{Package, Selftest}
use Rattle.mi_words.specs.Asked.{of_words}
use Rattle.mi_commands.specs.Answers.{IsTold, SourceFails}
use Rattle.mi_commands.specs.Replies.{log_in}
use Rattle.mi_commands.proofs.ServeLemmas.{test_as, no_rise, memory_serves}
use Rattle.mi_commands.proofs.obey.test.Goals as goal

pub install_made-requires-clause-machine : goal.install_made-requires-clause-machine
install_made-requires-clause-machine g c = λ v. c.requires.machine v (held c.in-Ok.made)

pub install_made-requires-clause-contents : goal.install_made-requires-clause-contents
install_made-requires-clause-contents g c = λ v. c.requires.contents v (held c.in-Ok.made)

pub returns-in-Ok-clause-serves : goal.returns-in-Ok-clause-serves
returns-in-Ok-clause-serves g c h m files n is_handed same =
    let s = g.V.Volume.state c.args.vol.now in
    let u = g.V.Volume.state c.install_made.new.vol in
    let r = c.install_made.result in
    let t = c.args.asked.now in
    let made = held c.in-Ok.made in
    let command = Selftest t.files (of_words t.words) in
    let own = Package false (codes "self") (of_words t.words ++ []) in
    test_as g.V.Volume.told (IsTold g.V.Volume.told ⊥ (Ok command)) (λ x. x.0) s u h files c.args.now c.args.settled m (machine_over s.held made c.args.image) c.requires.free c.install_made.ensures.passes is_handed (λ v. same v made) r.kind r.reached (log_in r)
    (IsTold g.V.Volume.told (Unit {0}) (Ok own)) (λ x. (x.0, λ asks. tt)) made t.files (of_words t.words) (of_words t.words ++ []) (SourceFails (Ok command) n n) (Rose 0 0) (λ rose. absurd (no_rise rose)) c.in-Ok.ensures (append-nil (of_words t.words)) c.install_made.ensures.serves

pub returns-in-Err-clause-serves : goal.returns-in-Err-clause-serves
returns-in-Err-clause-serves g c h m files n is_handed same =
    let s = g.V.Volume.state c.args.vol.now in
    let t = c.args.asked.now in
    let command = Selftest t.files (of_words t.words) in
    memory_serves g.V.Volume.told (IsTold g.V.Volume.told ⊥ (Ok command)) s (of_command h (free_room h.capacity s.held) m (settled h.held) command) command c.args.settled (SourceFails (Ok command) n n) c.requires.free c.out_of_memory.result c.out_of_memory.ensures.wants c.out_of_memory.ensures.reached
