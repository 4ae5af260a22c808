-- A long name is held by no look-up.
use Rattle.std.proofs.Common.{ℕ, List, Option, sym, ap, ◌∙◌}
use Rattle.mi_format.specs.State.{part_beside, part_bracket}
use Rattle.mi_format.specs.Kept.{kept_part}
use Rattle.mi_format.proofs.NameLemmas.{nothing_or, not_not, if_ok_same, long_is, nothing_kept_beside}
use Rattle.mi_format.proofs.part.Kept.with_bracket.Goals as goal

pub returns-in-Longer-2 : goal.returns-in-Longer-2
returns-in-Longer-2 g c = λ q x r e f.
    let L = g.E.Env.lookups c.args.env.now in
    c.with_nothing.ensures
    ∙ nothing_kept_beside L c.args.room c.args.self q x c.in-Longer-2.look r (not_not c.args.room.names c.if-not-room.false) e (sym c.in-Longer-2.is ∙ f) (sym c.is_name.ensures ∙ c.if-is_name.true)

pub returns-in-Longer-3 : goal.returns-in-Longer-3
returns-in-Longer-3 g c = λ q x r e f.
    let L = g.E.Env.lookups c.args.env.now in
    let none = long_is L c.args.room x c.in-Longer-2.look r (not_not c.args.room.names c.if-not-room.false) (sym c.in-Longer-2.is ∙ f) ∙ ap nothing_or (sym c.is_name.ensures ∙ c.if-is_name.false) in
    if_ok_same c.with_text-in-Longer-3.result _ _ (ap (λ (v : Option (List ℕ)). kept_part c.args.room.most (part_beside q (part_bracket x v))) (sym none)) (c.with_text-in-Longer-3.ensures q x e f)
