-- Numbers that are gathered, each once and in order. (File Table, Language.)
use Rattle.std.specs.Prelude.{ℕ, List, Option, Some, None}
use Rattle.std.specs.BTreeSet.{insert_key}
use Rattle.std.specs.Ordering.{nat_cmp}

-- with one number more, where there is one
abbrev pub with_number : List ℕ → Option ℕ → List ℕ
with_number numbers None = numbers
with_number numbers (Some n) = insert_key nat_cmp numbers n
