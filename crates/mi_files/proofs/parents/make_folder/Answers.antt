-- What fits is a folder's path.
use Rattle.std.proofs.Common.{◌≡◌, Bool, true, false, not, ◌&&◌, length, refl}
use Rattle.std.specs.Prelude.{◌==◌}
use Rattle.mi_text.specs.Path.{is_folder_path}
use Rattle.mi_base.specs.Limits.{fits}
use Rattle.mi_files.proofs.parents.make_folder.Goals as goal

pub path_of-requires : goal.path_of-requires
unfolding fits
path_of-requires c = by (is_folder_path c.args.folder.now) (not (length c.args.folder.now == 3)) c.requires
  where
    by : (a b : Bool) → (a && b) ≡ true → a ≡ true
    by true b e = refl
    by false b e = cc
