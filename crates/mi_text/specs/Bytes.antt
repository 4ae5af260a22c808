-- Numbers that are bytes.
use Rattle.std.specs.Prelude.{◌≡◌, ℕ, nat_lt, Bool, true, List}
use Rattle.std.specs.List.{list_all}

abbrev pub are_bytes : List ℕ → Bool
are_bytes bytes = list_all (λ b. nat_lt b 256) bytes

abbrev pub AreBytes : List ℕ → Type 0
AreBytes bytes = are_bytes bytes ≡ true
