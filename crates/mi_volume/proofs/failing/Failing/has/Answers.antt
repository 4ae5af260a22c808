use Rattle.std.proofs.Common.{◌≡◌, ◌||◌, Bool, true, false, refl, ap, ◌∙◌}
use Rattle.std.specs.Option.{option_map_or}
use Rattle.std.specs.Prelude.{nat_le}
use Rattle.mi_volume.proofs.failing.Failing.has.Goals as goal

either : (a b : Bool) → a ≡ true → a ≡ (a || b)
either true b is = refl
either false b is = cc

other : (a b : Bool) → a ≡ false → b ≡ (a || b)
other true b is = cc
other false b is = refl

pub returns-then-contains : goal.returns-then-contains
returns-then-contains c =
    let from = option_map_or (λ n. nat_le n c.args.number) c.args.self.now.fails.from false in
    let same = c.contains.ensures ∙ c.args.self.now.listed c.args.number in
    either c.contains.result from c.if-contains.true ∙ ap (λ b. b || from) same

pub returns-else-contains : goal.returns-else-contains
returns-else-contains c =
    let from = option_map_or (λ n. nat_le n c.args.number) c.args.self.now.fails.from false in
    let same = c.contains.ensures ∙ c.args.self.now.listed c.args.number in
    c.is_from.ensures ∙ other c.contains.result from c.if-contains.false ∙ ap (λ b. b || from) same
