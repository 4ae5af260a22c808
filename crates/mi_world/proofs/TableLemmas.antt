-- The maps that the program's trees by texts mean.
use Rattle.std.proofs.Common.{◌≡◌, Bool, List, Some}
use Rattle.std.specs.Prelude.{string_bytes, String}
use Rattle.std.specs.declared.alloc.Global.{Global}
use Rattle.std.specs.Ordering.{nat_cmp}
use Rattle.std.specs.Cmp.Lexicographic.{slice_cmp}
use Rattle.std.specs.FinMap.{get, insert}
use Rattle.std.specs.BTreeMap.{BTreeMap}
use Rattle.std.specs.BTreeMap as tree
use Rattle.std.specs.Map.{lookup}
use Rattle.std.specs.String.{string_cmp}
use Rattle.mi_text.specs.Maps.{Name}
use Rattle.mi_text.proofs.TreeLemmas.{at_as, get-map_as, stored_as}
use Rattle.mi_world.specs.Flags.{flags_of}

-- what stands at a name
pub get-flags_of : (es : List (String Global × Bool)) (q : Name) → get (flags_of es) q ≡ lookup (at_as string_bytes q) es
get-flags_of es q = get-map_as string_bytes es q

-- maps of the program that differ at one name mean maps that differ there
pub one_flag : (m n : BTreeMap (String Global) Bool) (k : Name) (v : Bool) → tree.UpdatesBy string_cmp (λ s. slice_cmp nat_cmp k (string_bytes s)) m n (Some v)
    → flags_of n.entries ≡ insert (flags_of m.entries) k v
one_flag m n k v u = stored_as string_bytes m n k (Some v) u
