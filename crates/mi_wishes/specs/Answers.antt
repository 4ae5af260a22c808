-- What a call answers, or its refusal. (This project's own.)
use Rattle.std.specs.Prelude.{◌≡◌, Option, Some, None, Result, Ok, Err}
use Rattle.mi_base.specs.declared.answers.Fault.{Fault as TheFault}
use Rattle.mi_wishes.specs.declared.error.SelectError.{SelectError}
use Rattle.mi_wishes.specs.declared.error.SelectError.TheVariants.{NoMemory, Fault}

-- this refusal, or want of memory
abbrev pub Refuses : SelectError → TheFault → Type 0
Refuses NoMemory fault = Unit {0}
Refuses (Fault f) fault = f ≡ fault

-- Ok with such a value where nothing is refused, and else exactly this refusal; or want of memory
abbrev pub Checks : {A : Type 0} → Result A SelectError → Option TheFault → (A → Type 0) → Type 0
Checks (Ok a) fault P = (fault ≡ None) × P a
Checks (Err NoMemory) fault P = Unit {0}
Checks (Err (Fault f)) fault P = fault ≡ Some f

-- Ok with exactly the value, and refused with exactly the refusal; or want of memory
abbrev pub Gives : {A B : Type 0} → Result A SelectError → (A → B) → Result B TheFault → Type 0
Gives (Ok a) seen r = r ≡ Ok (seen a)
Gives (Err NoMemory) seen r = Unit {0}
Gives (Err (Fault f)) seen r = r ≡ Err f
