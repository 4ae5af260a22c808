use Rattle.std.proofs.Common.{codes}
use Rattle.mi_model.specs.RemoveRegistryValues.{remove_row}
use Rattle.mi_records.specs.Meaning.{numbered}
use Rattle.mi_records.proofs.WriteLemmas.{row_told}
use Rattle.mi_records.proofs.remove.remove_numbered.Goals as goal

pub returns-in-Err-clause-row : goal.returns-in-Err-clause-row
returns-in-Err-clause-row g c = λ held files w same guards clear.
    row_told held files c.args.plan.now c.remove_row.new.plan (Unit {0}) (codes "Registry") c.args.row.0 (remove_row w (numbered c.args.row.0 c.args.row.1.now)) c.in-Err.stop c.error.result (c.in-Err.ensures.row held files w c.args.row.0 same guards clear) c.error.ensures
