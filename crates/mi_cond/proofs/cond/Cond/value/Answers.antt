use Rattle.std.proofs.Common.{◌∙◌, sym, ap}
use Rattle.mi_cond.specs.Answer.{condition_of}
use Rattle.mi_cond.proofs.ReadLaws.{no_fault}
use Rattle.mi_cond.proofs.cond.Cond.value.Goals as goal

pub unreachable-requires : goal.unreachable-requires
unreachable-requires g c = no_fault c.self.inside.text c.in-Err.field-0 c.self.invariant (ap condition_of (sym c.as_bytes.ensures.bytes) ∙ c.in-Err.ensures)
