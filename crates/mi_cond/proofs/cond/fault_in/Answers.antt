use Rattle.std.proofs.Common.{◌∙◌, sym, ap}
use Rattle.mi_cond.specs.Answer.{condition_of}
use Rattle.mi_cond.proofs.ReadLaws.{is_condition}
use Rattle.mi_cond.proofs.cond.fault_in.Goals as goal

pub returns-in-Ok : goal.returns-in-Ok
returns-in-Ok c = is_condition c.args.text.now c.in-Ok.ensures.0 (ap condition_of (sym c.as_bytes.ensures.value) ∙ c.in-Ok.ensures.1)
