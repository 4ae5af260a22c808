use Rattle.std.proofs.Common.{◌≡◌, List, ℕ, map, take}
use Rattle.std.specs.BTreeSet.{contains}
use Rattle.mi_text.specs.Maps.{name_cmp, is_among}
use Rattle.mi_script.specs.Scripts.{name_at}
use Rattle.mi_script.proofs.names.names_of.Given as goal

-- the set has the names of the records so far
abbrev pub invariant-loop-rec : goal.invariant-loop-rec
invariant-loop-rec l = (q : List ℕ) → contains name_cmp l.names q ≡ is_among q (map name_at (take l.rec-index l.recs))
