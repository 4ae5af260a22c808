use Rattle.std.proofs.Common.{◌∙◌, arith, sym}
use Rattle.mi_undo.proofs.DecodeLemmas.{name_no_text, name_good}
use Rattle.mi_undo.proofs.decode.read_name.Goals as goal

pub returns-in_default-clause-value : goal.returns-in_default-clause-value
returns-in_default-clause-value g c = λ told. name_no_text c.args.len _ _ (omega arith) (omega arith) (c.as_slice-bytes.ensures ∙ c.in_ok-bytes.ensures.value told) c.if-bytes-len.false c.in_default.ensures.cases.0

pub returns-in-Ok-2-clause-value : goal.returns-in-Ok-2-clause-value
returns-in-Ok-2-clause-value g c = λ told. name_good c.args.len _ _ (omega arith) (omega arith) (c.as_slice-bytes.ensures ∙ c.in_ok-bytes.ensures.value told) c.if-bytes-len.false _ (c.in-Ok-of.ensures.ok ∙ c.in-Ok.ensures.cases.0) c.in-Ok.ensures.cases.1 (sym c.is_within.ensures ∙ c.if-is_within.false)
