use Rattle.std.proofs.Common.{codes}
use Rattle.mi_model.specs.WriteRegistryValues.{write_row}
use Rattle.mi_records.specs.Meaning.{numbered}
use Rattle.mi_records.proofs.WriteLemmas.{row_told}
use Rattle.mi_records.proofs.write.write_numbered.Goals as goal

pub returns-in-Err-clause-row : goal.returns-in-Err-clause-row
returns-in-Err-clause-row g c = λ held files w same.
    row_told held files c.args.plan.now c.write_row.new.plan (Unit {0}) (codes "Registry") c.args.row.0 (write_row w (numbered c.args.row.0 c.args.row.1.now)) c.in-Err.stop c.error.result (c.in-Err.ensures.row held files w c.args.row.0 same) c.error.ensures
