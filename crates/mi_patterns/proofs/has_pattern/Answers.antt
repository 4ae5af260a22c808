use Rattle.std.proofs.Common.{◌≡◌, Bool, true, false, ◌||◌, sym, ◌∙◌}
use Rattle.std.specs.Str.{chars}
use Rattle.mi_text.specs.Fold.{folded}
use Rattle.mi_model.specs.Patterns.{has_pattern, matches}
use Rattle.mi_patterns.proofs.has_pattern.Goals as goal

either_true : (a b : Bool) → a ≡ true → true ≡ (a || b)
either_true a b h = cc

second_of : (a b : Bool) → a ≡ false → b ≡ (a || b)
second_of a b h = cc

pub returns-then-is_every : goal.returns-then-is_every
unfolding has_pattern
returns-then-is_every c = either_true _ _ (sym c.is_every.ensures ∙ c.if-is_every.true)

pub returns : goal.returns
unfolding has_pattern
returns c =
    let e : c.matches.result ≡ matches (chars (folded c.args.pattern.now)) (chars (folded c.args.name.now)) = cc (c.matches.ensures, c.as_slice.ensures.value, c.as_slice-2.ensures.value, c.in_ok-pattern.ensures, c.in_ok-name.ensures) in
    e ∙ second_of _ _ (sym c.is_every.ensures ∙ c.if-is_every.false)
