-- A row that is refused names none.
use Rattle.std.proofs.Common.{ap, sym}
use Rattle.std.specs.Prelude.{option_map, Result}
use Rattle.std.specs.Result.{result_ok}
use Rattle.mi_base.specs.declared.answers.Fault.{Fault}
use Rattle.mi_model.specs.RegistryRows.{RegistryPlace}
use Rattle.mi_model.specs.RegistryGuards.{place_of_key}
use Rattle.mi_records.proofs.named.registry_key.Goals as goal

pub returns-in-Err-Refused : goal.returns-in-Err-Refused
returns-in-Err-Refused g c = λ number.
    let refused = rw c.in-Err-Refused.field-0-is at (c.in-Err-Refused.ensures number) in
    ap (λ (x : Result RegistryPlace Fault). option_map place_of_key (result_ok x)) (sym refused)
