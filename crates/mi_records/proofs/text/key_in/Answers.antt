use Rattle.mi_records.proofs.text.key_in.Goals as goal

pub returns-in-Ok-clause-value : goal.returns-in-Ok-clause-value
returns-in-Ok-clause-value c = λ table row. c.good_key.ensures.value table c.args.text.now row c.in-Ok.ensures
