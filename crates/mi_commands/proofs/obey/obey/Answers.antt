use Rattle.std.proofs.Common.{◌≡◌, Ok, subst, sym}
use Rattle.mi_source.specs.Counts.{Rose}
use Rattle.mi_image.specs.Items.{machine_over}
use Rattle.mi_undo.specs.Stands.{settled}
use Rattle.mi_model.specs.Listings.{clients_text_of, products_text_of}
use Rattle.mi_model.specs.Outcome.{free_room, of_command}
use Rattle.mi_model.specs.Words.{Clients, Products, Recover, Package}
use Rattle.mi_words.specs.Asked.{asked, of_words}
use Rattle.mi_words.specs.declared.command.Command.{Command}
use Rattle.mi_words.specs.declared.command.Command.TheVariants as variant
use Rattle.mi_commands.specs.Answers.{IsTold, SourceFails}
use Rattle.mi_commands.specs.Asked.{MayAsk}
use Rattle.mi_commands.specs.Calls.{sets_of}
use Rattle.mi_commands.specs.Replies.{Serves, log_in}
use Rattle.mi_commands.proofs.ServeLemmas.{list_serves, recover_serves, package_as, test_told}
use Rattle.mi_commands.proofs.obey.obey.Goals as goal

pub returns-in-Clients-clause-serves : goal.returns-in-Clients-clause-serves
returns-in-Clients-clause-serves g c h m is_handed same =
    let s = g.V.Volume.state c.args.vol.now in
    let files = g.S.Source.files c.args.src.now in
    let n = g.S.Source.faults c.args.src.now in
    let r = c.list_clients.result in
    let lists = c.list_clients.ensures s.held files in
    subst (λ (x : Command). Serves g.V.Volume.told (IsTold g.V.Volume.told g.S.Source.told (Ok (asked x))) s s (of_command h (free_room h.capacity s.held) m (settled h.held) (asked x)) (asked x) (λ y. y ≡ c.args.settled) (SourceFails (Ok (asked x)) n n) r.kind r.reached (log_in r)) (sym c.in-Clients.is)
    (list_serves g.V.Volume.told (IsTold g.V.Volume.told g.S.Source.told (Ok Clients)) (λ t. t.0) s c.args.settled (SourceFails (Ok Clients) n n) c.requires.free Clients clients_text_of m (machine_over s.held files c.args.image) r (λ v. same v files) tt lists.answers lists.reached)

pub returns-in-Products-clause-serves : goal.returns-in-Products-clause-serves
returns-in-Products-clause-serves g c h m is_handed same =
    let s = g.V.Volume.state c.args.vol.now in
    let files = g.S.Source.files c.args.src.now in
    let n = g.S.Source.faults c.args.src.now in
    let r = c.list_products.result in
    let lists = c.list_products.ensures s.held files in
    subst (λ (x : Command). Serves g.V.Volume.told (IsTold g.V.Volume.told g.S.Source.told (Ok (asked x))) s s (of_command h (free_room h.capacity s.held) m (settled h.held) (asked x)) (asked x) (λ y. y ≡ c.args.settled) (SourceFails (Ok (asked x)) n n) r.kind r.reached (log_in r)) (sym c.in-Products.is)
    (list_serves g.V.Volume.told (IsTold g.V.Volume.told g.S.Source.told (Ok Products)) (λ t. t.0) s c.args.settled (SourceFails (Ok Products) n n) c.requires.free Products products_text_of m (machine_over s.held files c.args.image) r (λ v. same v files) tt lists.answers lists.reached)

pub returns-in-Recover-clause-serves : goal.returns-in-Recover-clause-serves
returns-in-Recover-clause-serves g c h m is_handed same =
    let s = g.V.Volume.state c.args.vol.now in
    let n = g.S.Source.faults c.args.src.now in
    let r = c.logged.result in
    subst (λ (x : Command). Serves g.V.Volume.told (IsTold g.V.Volume.told g.S.Source.told (Ok (asked x))) s s (of_command h (free_room h.capacity s.held) m (settled h.held) (asked x)) (asked x) (λ y. y ≡ c.args.settled) (SourceFails (Ok (asked x)) n n) r.kind r.reached (log_in r)) (sym c.in-Recover.is)
    (recover_serves g.V.Volume.told (IsTold g.V.Volume.told g.S.Source.told (Ok Recover)) (λ t. t.0) s c.args.settled (SourceFails (Ok Recover) n n) c.requires.free (settled h.held) r is_handed.finds c.logged.ensures)

pub install-requires-clause-public : goal.install-requires-clause-public
install-requires-clause-public g c = subst (λ (x : Command). MayAsk x) c.in-Package.is c.requires.words

pub install-requires-clause-machine : goal.install-requires-clause-machine
install-requires-clause-machine g c = λ v. c.requires.machine v (g.S.Source.files c.args.src.now)

pub install-requires-clause-contents : goal.install-requires-clause-contents
install-requires-clause-contents g c = λ v. c.requires.contents v (g.S.Source.files c.args.src.now)

pub returns-in-Package-clause-serves : goal.returns-in-Package-clause-serves
returns-in-Package-clause-serves g c h m is_handed same =
    let s = g.V.Volume.state c.args.vol.now in
    let u = g.V.Volume.state c.install.new.vol in
    let files = g.S.Source.files c.args.src.now in
    let first = g.S.Source.faults c.args.src.now in
    let last = g.S.Source.faults c.install.new.src in
    let r = c.install.result in
    let p = c.in-Package.request in
    let command = Package p.recorded p.folder.now (sets_of p) in
    subst (λ (x : Command). Serves g.V.Volume.told (IsTold g.V.Volume.told g.S.Source.told (Ok (asked x))) s u (of_command h (free_room h.capacity s.held) m (settled h.held) (asked x)) (asked x) (λ y. y ≡ c.args.settled) (SourceFails (Ok (asked x)) first last) r.kind r.reached (log_in r)) (sym c.in-Package.is)
    (package_as g.V.Volume.told (IsTold g.V.Volume.told g.S.Source.told (Ok command)) (λ t. t.0) s u h files c.args.now c.args.settled m (machine_over s.held files c.args.image) c.requires.free c.install.ensures.passes is_handed (λ v. same v files) r.kind r.reached (log_in r)
    p.recorded p.folder.now (sets_of p) (SourceFails (Ok command) first last) (Rose first last) (λ rose. (tt, rose)) c.install.ensures.serves)

pub test-requires-clause-words : goal.test-requires-clause-words
test-requires-clause-words g c = subst (λ (x : Command). MayAsk x) c.in-Selftest.is c.requires.words

pub returns-in-Selftest-clause-serves : goal.returns-in-Selftest-clause-serves
returns-in-Selftest-clause-serves g c h m is_handed same =
    let s = g.V.Volume.state c.args.vol.now in
    let u = g.V.Volume.state c.test.new.vol in
    let n = g.S.Source.faults c.args.src.now in
    let r = c.test.result in
    subst (λ (x : Command). Serves g.V.Volume.told (IsTold g.V.Volume.told g.S.Source.told (Ok (asked x))) s u (of_command h (free_room h.capacity s.held) m (settled h.held) (asked x)) (asked x) (λ y. y ≡ c.args.settled) (SourceFails (Ok (asked x)) n n) r.kind r.reached (log_in r)) (sym c.in-Selftest.is)
    (test_told g.V.Volume.told g.S.Source.told s u c.in-Selftest.request.files (of_words c.in-Selftest.request.words) (of_command h (free_room h.capacity s.held) m (settled h.held) (asked (variant.Selftest c.in-Selftest.request))) c.args.settled n c.requires.free c.test.ensures.passes r.kind r.reached (log_in r)
    (c.test.ensures.serves h m (g.S.Source.files c.args.src.now) n is_handed same))
