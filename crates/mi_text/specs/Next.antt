-- The names of a map one after the other, and what a scan has read so far.
use Rattle.std.specs.Prelude.{◌≡◌, Bool, true, find, Option, Some, None, if◌then◌else◌}
use Rattle.std.specs.Ordering.{is_gt}
use Rattle.std.specs.FinMap.{get, keys}
use Rattle.mi_text.specs.Maps.{Name, Map, name_cmp}

-- whether the name comes behind the last one that was read; at first each name does
abbrev pub is_behind : Option Name → Name → Bool
is_behind None q = true
is_behind (Some after) q = is_gt (name_cmp q after)

-- the least held name behind it
abbrev pub next_name : {X : Type 0} → Map X → Option Name → Option Name
next_name m after = find (is_behind after) (keys m)

-- what is read so far: up to the last name what the map says, and nothing behind it
abbrev pub UpTo : {X : Type 0} → (Name → Option X) → Option Name → Map X → Type 0
UpTo says after read = (q : Name) → get read q ≡ (if is_behind after q then None else says q)
