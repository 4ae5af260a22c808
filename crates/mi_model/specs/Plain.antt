-- Rows of which none changes a name twice. (This project's own.)
use Rattle.std.specs.Prelude.{ℕ, ◌+◌, ◌≤◌, List, [], ◌∷◌, if◌then◌else◌}
use Rattle.mi_text.specs.Maps.{Name, same_name}
use Rattle.mi_base.specs.Machine.{Machine}
use Rattle.mi_changes.specs.Touches.{after_touches}
use Rattle.mi_changes.specs.Changes.{Change, changes}
use Rattle.mi_model.specs.PhaseRows.{Touches}

-- how many changes name it
abbrev pub times : {X : Type 0} → Name → List (Change X) → ℕ
times q [] = 0
times q (c ∷ cs) = if same_name q c.at then 1 + times q cs else times q cs

-- No row changes a name twice, each over the machine that those before it leave.
abbrev pub ArePlain : Machine → List Touches → Type 0
ArePlain m [] = Unit {0}
ArePlain m (row ∷ rows) = ((q : Name) → times q (changes m row) ≤ 1) × ArePlain (after_touches m row) rows
