use Rattle.std.proofs.Common.{Some, None, sym, arith}
use Rattle.mi_wishes.proofs.MarkLemmas.{parent_is, with_parent_is}
use Rattle.mi_wishes.proofs.marks.mark_parent.Goals as goal

pub bounds-marks-parent : goal.bounds-marks-parent
bounds-marks-parent c =
    let lt = c.requires.is_row in
    let below = c.requires.rows c.args.row c.in-Some.parent (parent_is c.args.parents.now c.args.row None (Some c.in-Some.parent) lt c.in-Some.is) in
    let size = c.requires.size in
    omega (arith, below, size)

pub returns-in-Some : goal.returns-in-Some
returns-in-Some c =
    let on = c.if-not-marks-row.false in
    sym (with_parent_is c.args.parents.now c.args.marks.now c.args.row (Some c.in-Some.parent) (omega arith) c.requires.is_row on c.in-Some.is)

pub returns-in-None : goal.returns-in-None
returns-in-None c =
    let on = c.if-not-marks-row.false in
    sym (with_parent_is c.args.parents.now c.args.marks.now c.args.row None (omega arith) c.requires.is_row on c.in-None.is)
