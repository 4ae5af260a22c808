-- The expansion, or that the text is nested too deep.
use Rattle.std.proofs.Common.{refl, sym, ap, ◌∙◌, Some}
use Rattle.mi_seq.proofs.CustomLemmas.{is_expanded, is_too_deep}
use Rattle.mi_seq.proofs.custom.expanded.Goals as goal

pub returns-in-Ok : goal.returns-in-Ok
returns-in-Ok g c = is_expanded (g.E.Env.lookups c.args.env.now) c.args.row c.args.text.now c.as_str.result.now c.in-Ok.text (c.in-Some.is ∙ ap Some (sym c.as_str.ensures)) c.in-Ok.ensures.value

pub returns-in-Err-Fault : goal.returns-in-Err-Fault
returns-in-Err-Fault g c = (
  refl,
  is_too_deep (g.E.Env.lookups c.args.env.now) c.args.row c.args.text.now c.as_str.result.now c.in-Err-Fault.field-0-0 (c.in-Some.is ∙ ap Some (sym c.as_str.ensures))
      (rw c.in-Err-Fault.field-0-is at c.in-Err-Fault.ensures.value),
)
