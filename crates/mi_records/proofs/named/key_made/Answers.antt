-- A row that is refused names none.
use Rattle.std.proofs.Common.{ap, sym}
use Rattle.std.specs.Prelude.{option_and_then, Result}
use Rattle.std.specs.Result.{result_ok}
use Rattle.mi_base.specs.declared.answers.Fault.{Fault}
use Rattle.mi_model.specs.RegistryRows.{RegistryMeaning}
use Rattle.mi_model.specs.RegistryGuards.{key_kept_by}
use Rattle.mi_records.proofs.named.key_made.Goals as goal

pub returns-in-Err-Refused : goal.returns-in-Err-Refused
returns-in-Err-Refused g c = λ number.
    let refused = rw c.in-Err-Refused.field-0-is at (c.in-Err-Refused.ensures number) in
    ap (λ (x : Result RegistryMeaning Fault). option_and_then key_kept_by (result_ok x)) (sym refused)
