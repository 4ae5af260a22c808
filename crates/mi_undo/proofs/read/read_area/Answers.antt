use Rattle.std.proofs.Common.{◌≡◌, ◌∙◌, arith}
use Rattle.mi_undo.proofs.ReadLemmas.{read_end, past_most, first_is_end}
use Rattle.mi_undo.proofs.read.read_area.Goals as goal

pub returns-clause-reads : goal.returns-clause-reads
returns-clause-reads g c = λ told. c.loop-number.invariant.reads told ∙ read_end _ _ _ (past_most _ c.loop-number-test.false)

pub returns-clause-count : goal.returns-clause-count
returns-clause-count g c = λ told. c.loop-number.invariant.first told ∙ first_is_end _ _ (past_most _ c.loop-number-test.false) ∙ (let e : c.loop-number.number ≡ 100000000 = omega (arith, c.loop-number-test.false, c.loop-number.auto.number-end) in e)
