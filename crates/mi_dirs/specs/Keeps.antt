-- What directories keep.
use Rattle.std.specs.Prelude.{◌≡◌, ℕ, ◌<◌, true, List, [], length, Some, None, Option, slice_get, String}
use Rattle.std.specs.declared.alloc.Global.{Global}
use Rattle.std.specs.BTreeMap.{BTreeMap, get_by_text}
use Rattle.mi_text.specs.Maps.{Name}
use Rattle.mi_dirs.specs.declared.dir.Dir.{Dir}
use Rattle.mi_dirs.specs.Chains.{ends_in}
use Rattle.mi_dirs.specs.Order.{IsOrder}
use Rattle.mi_dirs.specs.Places.{Folder, bound, parent_at, target_at, row_of}
use Rattle.mi_dirs.specs.Faults.{path_fault}
use Rattle.mi_dirs.specs.Views.{places_in, OwnFolders, TargetFolders}

-- the rows can be looked up by key and stand behind their parents in the order, all chains of parents end, and each target is a folder's path
pub record Keeps (rows : List Dir) (sources : List (List ℕ)) (by_key : BTreeMap (String Global) ℕ) (rows_in_order : List ℕ) (found : List (Option Folder)) : Type 0 where
  pub index : (q : Name) → get_by_text by_key q ≡ row_of (places_in rows sources) q
  pub order : IsOrder (parent_at (places_in rows [])) (length rows) rows_in_order
  pub ends : (row : ℕ) → row < length rows → ends_in (parent_at (places_in rows [])) (bound rows) row ≡ true
  pub folders : OwnFolders rows
  pub paths : TargetFolders found
  pub size : length found ≡ length rows
  pub targets : (row : ℕ) → row < length rows → slice_get found row ≡ Some (target_at (places_in rows sources) row)
  pub accepted : path_fault (places_in rows sources) ≡ None
