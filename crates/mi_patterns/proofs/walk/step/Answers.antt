use Rattle.std.proofs.Common.{◌≡◌, ◌==◌, ◌∙◌, ℕ, false, Some, refl, sym}
use Rattle.std.proofs.lemmas.Bool.{ne_eqb}
use Rattle.mi_model.specs.Patterns.{matches}
use Rattle.mi_patterns.proofs.PatternLemmas.{none_left, none_here}
use Rattle.mi_patterns.proofs.WalkLemmas.{star_steps, one_steps, back_steps}
use Rattle.mi_patterns.proofs.walk.step.Goals as goal
use Rattle.mi_patterns.proofs.walk.step.Goals.{in-Some+else-wanted-eq42+else-passes, in_default}

other : (p : ℕ) → (p ≡ 42 → ⊥) → (p == 42) ≡ false
other p h = ne_eqb p 42 h

pub returns-then-wanted-eq42 : goal.returns-then-wanted-eq42
returns-then-wanted-eq42 c = λ P T s.
    let w = c.args.walk in
    star_steps P T w.way (Some (record { pattern = c.in-Some.pattern; text = w.text })) c.in-Some.wanted.now w.pattern.now c.in-Some.pattern.now w.text.now c.in-Some.ensures.cases.0 c.if-wanted-eq42.true (refl, refl) s

pub returns-then-passes : goal.returns-then-passes
returns-then-passes c = λ P T s.
    let w = c.args.walk in
    one_steps P T w.way c.in-Some.wanted.now c.args.c w.pattern.now c.in-Some.pattern.now w.text.now c.args.rest.now c.in-Some.ensures.cases.0 c.requires (other _ c.if-wanted-eq42.false) (sym c.passes.ensures ∙ c.if-passes.true) s

fails : (c : goal.After-later) → matches c.args.walk.pattern.now c.args.walk.text.now ≡ false
fails c =
    elim c.match-split_first.branch [
      | in-Some+else-wanted-eq42+else-passes w ↦ none_here c.args.walk.pattern.now w.in-Some.pattern.now c.args.walk.text.now c.args.rest.now w.in-Some.wanted.now c.args.c w.in-Some.ensures.cases.0 c.requires (other _ w.if-wanted-eq42.false) (sym w.passes.ensures ∙ w.if-passes.false)
      | in_default w ↦ none_left c.args.walk.pattern.now c.args.walk.text.now c.args.rest.now c.args.c w.in_default.ensures.cases c.requires
    ]

pub returns : goal.returns
returns c = λ P T s. back_steps P T c.args.walk.way c.later.result c.args.walk.pattern.now c.args.walk.text.now c.args.rest.now c.args.c c.later.ensures (fails c) c.requires s.0
