-- What a private function that reads a token gives.
use Rattle.std.specs.Prelude.{◌≡◌, Option, Some, None}

-- it changes a value to the next one, where there is one
abbrev pub StepsTo : {S U : Type 0} → Option U → Option S → S → Type 0
StepsTo (Some u) next new = next ≡ Some new
StepsTo None next new = next ≡ None
