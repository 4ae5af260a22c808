use Rattle.std.proofs.Common.{◌≡◌, map, take}
use Rattle.mi_dirs.specs.Rows.{source_name}
use Rattle.mi_dirs.specs.Sources.{source_names}
use Rattle.mi_dirs.specs.Views.{bare, bare_dir, OwnFolders}
use Rattle.mi_dirs.proofs.dirs.dirs_of.Given as goal

abbrev pub invariant-loop-number : goal.invariant-loop-number
invariant-loop-number l = (map bare_dir l.dirs.items ≡ map (bare l.rows l.props l.remembered) (take l.number l.rows)) × (source_names l.dirs.items ≡ map (source_name l.short) (take l.number l.rows)) × OwnFolders l.dirs.items
