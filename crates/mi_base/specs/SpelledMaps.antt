-- A map of entries, and the map from names to records that spells it, whichever way entries are spelled.
use Rattle.std.specs.Prelude.{ℕ, Bool, not, ◌&&◌, List, find, Option, Some, None, is_none, Result, Ok, Err, if◌then◌else◌, codes, option_and_then}
use Rattle.std.specs.List.{starts_with}
use Rattle.std.specs.Bool.{nat_eq}
use Rattle.std.specs.FinMap.{get, keys, entries}
use Rattle.mi_text.specs.Maps.{Name, Map, tabulated}

-- names of the rollback area, which spell nothing
abbrev pub is_area : Name → Bool
is_area q = starts_with nat_eq q (codes "j/")

-- read is what a name and its record spell
module _ {E : Type 0} (read : Name → List ℕ → Option E) where
  -- what is spelled at a name
  abbrev pub spelled_at : Map (List ℕ) → Name → Option E
  spelled_at d q = if is_area q then None else option_and_then (read q) (get d q)

  -- a held name outside the rollback area that isn't spelled
  abbrev pub is_bad : Name × List ℕ → Bool
  is_bad e = not (is_area e.0) && is_none (read e.0 e.1)

  abbrev pub or_name : Option (Name × List ℕ) → Map E → Result (Map E) Name
  or_name None m = Ok m
  or_name (Some e) m = Err e.0

  -- the entries that the held names spell, or the first name in byte order that isn't spelled
  unfoldable pub spelled_map : Map (List ℕ) → Result (Map E) Name
  spelled_map d = or_name (find is_bad (entries d)) (tabulated (spelled_at d) (keys d))
