use Rattle.std.proofs.Common.{ap, ◌∙◌, w32}
use Rattle.std.proofs.lemmas.Int.{to_z-of_z}
use Rattle.mi_wishes.specs.Levels.{level_at, raised_by}
use Rattle.mi_wishes.proofs.LevelLemmas.{raised_there}
use Rattle.mi_wishes.proofs.levels.raise.Goals as goal

pub returns : goal.returns
returns c = λ q.
    c.in_ok-put.ensures q
    ∙ raised_there q c.args.feature.now (level_at c.args.levels.now) c.args.level _ (to_z-of_z w32 c.raised_by-level.result (record { sfits = c.raised_by-level.type_inv }) ∙ c.raised_by-level.ensures ∙ ap (λ z. raised_by z c.copied.result) (to_z-of_z w32 c.args.level c.ranges.level) ∙ ap (raised_by c.args.level) (c.copied.ensures ∙ c.get.ensures.value))
