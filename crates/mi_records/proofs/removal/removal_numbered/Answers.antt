use Rattle.std.proofs.Common.{codes}
use Rattle.mi_model.specs.RemoveRegistryValues.{removal_row}
use Rattle.mi_records.specs.Meaning.{numbered}
use Rattle.mi_records.proofs.WriteLemmas.{row_told}
use Rattle.mi_records.proofs.removal.removal_numbered.Goals as goal

pub returns-in-Err-clause-row : goal.returns-in-Err-clause-row
returns-in-Err-clause-row g c = λ held files w same clear.
    row_told held files c.args.plan.now c.removal_row.new.plan (Unit {0}) (codes "RemoveRegistry") c.args.row.0 (removal_row w (numbered c.args.row.0 c.args.row.1.now)) c.in-Err.stop c.error.result (c.in-Err.ensures.row held files w c.args.row.0 same clear) c.error.ensures
