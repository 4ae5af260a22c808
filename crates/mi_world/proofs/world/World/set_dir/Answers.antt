use Rattle.std.specs.FinMap.{empty}
use Rattle.mi_schema.specs.RowsOf.{rows_in}
use Rattle.mi_world.specs.Seen.{with_target}
use Rattle.mi_world.proofs.WorldLemmas.{some_is, becomes, stays, stays_loaded}
use Rattle.mi_world.proofs.world.World.set_dir.Goals as goal

pub returns-clause-set : goal.returns-clause-set
returns-clause-set c = λ held files g is.
    let old = c.args.self.now.seen in
    let p = some_is old.placed c.requires.costed.0 in
    let choice = some_is old.selection c.requires.costed.1 in
    becomes held files g old c.set_dir.new.self c.args.self.now.plan c.args.directory.now c.args.text.now p.0 choice.0 is p.1 choice.1 c.set_dir.result (c.set_dir.ensures p.0 p.1)

pub returns-clause-seen : goal.returns-clause-seen
returns-clause-seen c = λ g is.
    let old = c.args.self.now.seen in
    let p = some_is old.placed c.requires.costed.0 in
    let choice = some_is old.selection c.requires.costed.1 in
    stays empty empty g old c.set_dir.new.self c.args.self.now.plan c.args.directory.now c.args.text.now p.0 choice.0 is p.1 choice.1 c.set_dir.result (c.set_dir.ensures p.0 p.1)

pub returns-clause-package : goal.returns-clause-package
returns-clause-package c =
    let old = c.args.self.now.seen in
    let p = some_is old.placed c.requires.costed.0 in
    stays_loaded old c.set_dir.new.self (rows_in old.loaded) (with_target c.args.directory.now c.args.text.now p.0.dirs) c.set_dir.result (c.set_dir.ensures p.0 p.1)
