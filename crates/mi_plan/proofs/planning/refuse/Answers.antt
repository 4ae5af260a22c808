-- The action and its fault, as they are told.
use Rattle.std.proofs.Common.{◌≡◌, sym, subst}
use Rattle.std.specs.Prelude.{IfOk, OnOk}
use Rattle.mi_seq.specs.declared.error.SeqError.{SeqError}
use Rattle.mi_plan.specs.Stages.{IsRefusedBy, with_refused}
use Rattle.mi_plan.proofs.planning.refuse.Goals as goal

pub returns-in-Refused-clause-refused : goal.returns-in-Refused-clause-refused
returns-in-Refused-clause-refused c = subst (λ (e : SeqError). IfOk c.refuse_with.result (IsRefusedBy e)) (sym c.in-Refused.is) c.refuse_with.ensures.refused

pub returns-in-Refused-clause-begun : goal.returns-in-Refused-clause-begun
returns-in-Refused-clause-begun c = subst (λ (e : SeqError). OnOk c.refuse_with.result (c.refuse_with.new.work.begun.items ≡ with_refused c.args.work.now.begun.items e)) (sym c.in-Refused.is) c.refuse_with.ensures.begun
