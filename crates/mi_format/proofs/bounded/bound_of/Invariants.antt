use Rattle.std.proofs.Common.{◌≡◌, ℕ, ◌≤◌, List, [], length, drop}
use Rattle.mi_text.specs.Plain.{text_in}
use Rattle.mi_format.proofs.bounded.bound_of.Given as goal

abbrev pub invariant-loop-item : goal.invariant-loop-item
invariant-loop-item l = (name : List ℕ) → l.bound ≤ length name → text_in (drop l.item-index l.items) name ≡ [] → text_in l.items name ≡ []
