-- The places of names, as a map has them.
use Rattle.std.specs.Prelude.{◌≡◌, ℕ, List}
use Rattle.std.specs.BTreeMap.{BTreeMap, get_by}
use Rattle.std.specs.Ordering.{nat_cmp}
use Rattle.std.specs.Cmp.Lexicographic.{slice_cmp}
use Rattle.mi_idt.specs.Columns.{place_of}
use denote.Ref.{Bor}

-- the map has the place of each name, and nothing else
abbrev pub IsIndex : BTreeMap (Bor (List ℕ)) ℕ → List (List ℕ) → Type 0
IsIndex m names = (q : List ℕ) → get_by (λ k. slice_cmp nat_cmp q k.now) m ≡ place_of names q
