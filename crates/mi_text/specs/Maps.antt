-- Maps from the names of the volume, in byte order.
use Rattle.std.specs.Prelude.{ℕ, Bool, List, ◌++◌, map, Option, Some, None, option_map}
use Rattle.std.specs.List.{filter_map, list_any}
use Rattle.std.specs.declared.cmp.Ordering.{Ordering}
use Rattle.std.specs.Ordering.{nat_cmp, eq_by_cmp}
use Rattle.std.specs.Cmp.Lexicographic.{slice_cmp}
use Rattle.std.specs.FinMap.{FinMap, get, insert, remove, keys, entries, from_entries, from_sorted}

abbrev pub Name : Type 0
Name = List ℕ

abbrev pub name_cmp : Name → Name → Ordering
name_cmp = slice_cmp nat_cmp

abbrev pub same_name : Name → Name → Bool
same_name = eq_by_cmp name_cmp

abbrev pub Map : Type 0 → Type 0
Map X = FinMap name_cmp X

-- this stands at the name, or nothing
abbrev pub set_to : {X : Type 0} → Map X → Name → Option X → Map X
set_to m n None = remove m n
set_to m n (Some x) = insert m n x

abbrev pub is_among : Name → List Name → Bool
is_among q names = list_any (same_name q) names

-- the map that has at each of these names what the function says, and nothing elsewhere
unfoldable pub tabulated : {X : Type 0} → (Name → Option X) → List Name → Map X
tabulated f names = from_entries (filter_map (λ n. option_map (λ x. (n, x)) (f n)) names)

-- the map with each name changed by itself; the new names are among these
abbrev pub each_name : {X : Type 0} → Map X → List Name → (Name → Option X → Option X) → Map X
each_name m new f = tabulated (λ q. f q (get m q)) (keys m ++ new)

-- the map with each value changed by itself
abbrev pub map_values : {X Y : Type 0} → (X → Y) → Map X → Map Y
map_values f m = from_sorted (map (λ e. (e.0, f e.1)) (entries m))
