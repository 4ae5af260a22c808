use Rattle.std.proofs.Common.{length, subst, arith, refl}
use Rattle.mi_dirs.specs.Order.{parent_in}
use Rattle.mi_dirs.specs.Paths.{AllBelow}
use Rattle.mi_dirs.proofs.PathLemmas.{begins_going, goes_on, below-pop, nothing_left, all_placed}
use Rattle.mi_dirs.proofs.placing.Placing.place.Goals as goal

pub loop-row-init : goal.loop-row-init
loop-row-init c = begins_going (parent_in c.args.parents.now) (length c.args.parents.now) c.args.self c.args.path.items c.requires.placed c.requires.way

pub index_mut-requires : goal.index_mut-requires
index_mut-requires c =
    let low = below-pop (length c.args.parents.now) c.pop.new.self.items c.in-Some.row (subst (AllBelow (length c.args.parents.now)) c.in-Some.ensures.items c.loop-row.invariant.below) in
    omega (arith, low.1, c.loop-row.invariant.placed.size, c.loop-row.placed.ok)

pub loop-row-preserved : goal.loop-row-preserved
loop-row-preserved c =
    goes_on (parent_in c.args.parents.now) c.args.parents.now c.args.self c.args.path.items _ _ c.loop-row.path.items c.pop.new.self.items c.in-Some.row c.requires.rows
    c.loop-row.invariant c.in-Some.ensures.items c.in_ok-push.ensures.items refl

pub returns-clause-more : goal.returns-clause-more
returns-clause-more c =
    all_placed (parent_in c.args.parents.now) (length c.args.parents.now) c.args.self c.args.path.items _ c.loop-row.path.items c.loop-row.invariant
    (nothing_left c.loop-row.path.items c.loop-row.path.len c.loop-row.path.ok.0 c.in_default.ensures.cases.0)
