-- What lies in the trees of a machine, as the program sees it. (This project's own.)
use Rattle.std.specs.Prelude.{Bool, false, not, ◌&&◌, Option, Some, None, if◌then◌else◌, List}
use Rattle.mi_text.specs.Maps.{Name}
use Rattle.mi_model.specs.Prune.{Path, Seat, Holder, Leaf, Apart, is_on_way, folder_seat, key_seat}
use Rattle.mi_steps.specs.declared.seats.Tree.{Tree}
use Rattle.mi_steps.specs.declared.seats.Tree.TheVariants as tree
use Rattle.mi_steps.specs.declared.seats.Place.{Place}
use Rattle.mi_steps.specs.declared.seats.Place.TheVariants as place

-- what a name is in a tree
abbrev pub seat_in : Tree → Name → Seat
seat_in tree.Folders name = folder_seat name
seat_in tree.Keys name = key_seat name

abbrev pub seat_of : Place → Seat
seat_of (place.Holder path) = Holder path
seat_of (place.Leaf path) = Leaf path
seat_of place.Apart = Apart

-- the place that keeps each holder it lies in: what is held, or a holder that is neither touched nor above a touched one
abbrev pub keeps : List Path → Seat → Option Path
keeps touched (Holder path) = if is_on_way touched path then None else Some path
keeps touched (Leaf path) = Some path
keeps touched Apart = None

-- whether a holder goes: it is touched or above a touched one, and neither protected nor kept, nor above one that is
abbrev pub passes : List Path → List Path → List Path → Seat → Bool
passes touched protected kept (Holder path) = is_on_way touched path && not (is_on_way protected path) && not (is_on_way kept path)
passes touched protected kept other = false
