-- The rows end where they may, or not.
use Rattle.std.proofs.Common.{refl, sym, ◌∙◌}
use Rattle.mi_seq.specs.declared.walk.Refusal.TheVariants.{NoFinalize}
use Rattle.mi_seq.proofs.WalkLemmas.{refused_turn}
use Rattle.mi_seq.proofs.walk.Walk.end.Goals as goal

pub returns-then-inside : goal.returns-then-inside
returns-then-inside c = λ L none. refused_turn c.args.loaded.now L c.args.self.now c.refuse.new.self NoFinalize c.refuse.result c.refuse.ensures.tells c.refuse.ensures.kept
    (λ begun stands. record { none = none; inside = sym (c.is_inside-inside.ensures begun stands.stage) ∙ c.if-inside.true; is = refl })

pub returns-else-inside : goal.returns-else-inside
returns-else-inside c = λ L none begun stands. record { none = none; outside = sym (c.is_inside-inside.ensures begun stands.stage) ∙ c.if-inside.false; stays = refl }
