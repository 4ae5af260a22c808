use Rattle.std.proofs.Common.{sym, ap}
use Rattle.mi_format.specs.declared.token.Kind.{Kind}
use Rattle.mi_format.specs.declared.part.Kept.{Kept}
use Rattle.mi_format.specs.State.{part_beside, part_group}
use Rattle.mi_format.specs.Kept.{kept_part}
use Rattle.mi_format.proofs.NameLemmas.{if_ok_same}
use Rattle.mi_format.proofs.part.Kept.with_group.Goals as goal

pub returns-in-Bracket : goal.returns-in-Bracket
returns-in-Bracket g c = λ q p r e f.
    let L = g.E.Env.lookups c.args.env.now in
    if_ok_same c.with_bracket.result _ _ (ap (λ (k : Kind). kept_part c.args.room.most (part_beside q (part_group L k p))) (sym c.in-Bracket.is))
    (c.with_bracket.ensures q p.text r e (ap (λ (k : Kept). k.text) f))
