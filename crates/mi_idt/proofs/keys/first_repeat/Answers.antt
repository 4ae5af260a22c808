use Rattle.std.proofs.Common.{◌≡◌, ℕ, Option, subst, get_or, IfOk}
use Rattle.mi_idt.proofs.FrontLaws.{first_by_fronts, long_enough}
use Rattle.mi_idt.proofs.keys.first_repeat.Goals as goal

pub first_same-requires-clause-long : goal.first_same-requires-clause-long
first_same-requires-clause-long c = λ k d h. long_enough c.args.columns.now c.args.keys.now (get_or c.args.rows.now k d) (c.keys_stand.ensures c.if-keys_stand.true k d h)

pub returns-then-keys_stand : goal.returns-then-keys_stand
returns-then-keys_stand c = subst (λ (first : Option ℕ). IfOk c.first_same.result (λ row. row ≡ first)) (first_by_fronts c.args.columns.now c.args.keys.now c.args.rows.now c.requires.spelled (c.keys_stand.ensures c.if-keys_stand.true)) c.first_same.ensures
