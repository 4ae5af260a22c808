-- The row with its seat, or as it was.
use Rattle.std.proofs.Common.{List, subst, sym}
use Rattle.mi_seq.specs.Seats.{Placed, AreSeated}
use Rattle.mi_seq.proofs.OrderLemmas.{seated_with, seated_without, if_ok}
use Rattle.mi_seq.proofs.seats.seat_row.Goals as goal

pub returns-in-Some : goal.returns-in-Some
returns-in-Some c = if_ok c.put.result c.put.ensures (λ is rows there are. subst (λ (es : List Placed). AreSeated rows c.args.place es) (sym is)
    (seated_with rows c.args.place c.args.seats.now.entries c.args.row.now c.in-Some.seat there c.in-Some.ensures.0 c.in-Some.ensures.1 are))

pub returns-in-None : goal.returns-in-None
returns-in-None c = λ rows there are. seated_without rows c.args.place c.args.seats.now.entries c.args.row.now there c.in-None.ensures are
