-- Answers without a fault.
use Rattle.std.proofs.Common.{◌≡◌, false, Result, Ok, Err, OnOk, is_err}

pub no_error : {T E : Type 0} (P : Type 0) (r : Result T E) → is_err r ≡ false → OnOk r P → P
no_error P (Ok x) is p = p
no_error P (Err e) is p = absurd (cc)
