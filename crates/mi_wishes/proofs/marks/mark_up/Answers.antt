use Rattle.std.proofs.Common.{◌≡◌, ◌<◌, ◌≤◌, ◌-◌, ◌+◌, length, subst, arith}
use Rattle.std.specs.Prelude.{ℕ}
use Rattle.mi_dirs.specs.Order.{parent_in}
use Rattle.mi_wishes.proofs.MarkLemmas.{IsRisen, risen_start, risen_more, risen_all}
use Rattle.mi_wishes.proofs.marks.mark_up.Goals as goal

pub loop-left-init : goal.loop-left-init
loop-left-init c = (omega arith, risen_start (parent_in c.args.parents.now) (length c.args.parents.now) c.args.order.now c.args.marks.now c.requires.order c.requires.rows (length c.args.order.now) c.requires.size (omega arith))

pub loop-left-preserved : goal.loop-left-preserved
loop-left-preserved c =
    let left = c.loop-left.left in
    let parent = parent_in c.args.parents.now in
    let before : IsRisen parent (length c.args.parents.now) c.args.order.now c.args.marks.now ((left - 1) + 1) c.loop-left.marks = subst (λ (n : ℕ). IsRisen parent (length c.args.parents.now) c.args.order.now c.args.marks.now n c.loop-left.marks) (above left c.loop-left-test.true) c.loop-left.invariant.1 in
    (omega arith, risen_more parent (length c.args.parents.now) c.args.order.now c.args.marks.now c.requires.order c.requires.rows (left - 1) c.loop-left.marks c.mark_parent.new.marks (omega arith) c.mark_parent.ensures before)
  where
    above : (n : ℕ) → 0 < n → n ≡ (n - 1) + 1
    above n h = omega arith

pub returns-clause-up : goal.returns-clause-up
returns-clause-up c =
    let parent = parent_in c.args.parents.now in
    risen_all parent (length c.args.parents.now) c.args.order.now c.args.marks.now c.requires.order c.requires.rows c.loop-left.marks
    (subst (λ (n : ℕ). IsRisen parent (length c.args.parents.now) c.args.order.now c.args.marks.now n c.loop-left.marks) (none c.loop-left.left (omega arith)) c.loop-left.invariant.1)
  where
    none : (n : ℕ) → n ≤ 0 → n ≡ 0
    none n h = omega arith
